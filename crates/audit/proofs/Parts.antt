-- The parts of a plan that passes rows 1 to 12: as many flags and rents as the trace has requests. Assumes nothing.
use mathlib.Core.Path.{◌≡◌, refl, ap}
use Prim.Native.Nat.{ℕ, zero, suc, ◌*◌, ◌/◌, ◌≤◌}
use native.Mathlib.Omega.{arith}
use mathlib.Core.List.{List, [], ◌∷◌}
use lib.ListN.{length, take, length-take, length-drop}
use Rattle.std.specs.Prelude.{min}
use Rattle.model.proofs.Refusals.{next_passes}
use Rattle.fields.specs.Bytes.{put_front}
use Rattle.model.specs.Links.{listed}
use Rattle.model.specs.Numbers.{max_requests}
use Rattle.model.specs.Refusals.{passes}
use Rattle.trace.specs.TraceFile.{requests_at, trace_tried}
use Rattle.trace.proofs.Sound.{sound_trace}
use Rattle.plan.specs.PlanFile.{shape_of, rents_part, rent_in, plan_tried, section_tried, flags_of, rents_of}
use Rattle.plan.specs.Reading.{rents_into}
use Rattle.plan.proofs.Sections.{section_sound}
use Rattle.audit.specs.Audit.{plan_flags, plan_rents}

-- of rows 1 to 12 that pass, 1 to 8 do
pub section_trace : (tr pl : List ℕ) → section_tried tr pl ≡ passes → trace_tried tr ≡ passes
unfolding section_tried
section_trace tr pl h = (next_passes (trace_tried tr) (plan_tried (requests_at tr) pl) h).0

-- as many flags as requests
pub flags_count : (tr pl : List ℕ) → section_tried tr pl ≡ passes → length (plan_flags tr pl) ≡ requests_at tr
flags_count tr pl h =
    simp (length-take, length-drop) (omega (arith, (section_sound tr pl h).long))

-- the flags that are handed out are the plan's
pub flags_kept : (tr pl : List ℕ) → section_tried tr pl ≡ passes → flags_of tr pl ≡ plan_flags tr pl
flags_kept tr pl h = rw h

-- numbers put in the first places stand there
pub take_put : (f : ℕ → ℕ) (k t : ℕ) (l : List ℕ) → k ≤ length l → take k (put_front (listed f k t) l) ≡ listed f k t
take_put f zero t l h = refl
take_put f (suc k) t [] h = absurd (omega arith)
take_put f (suc k) t (x ∷ l) h = ap (λ (s : List ℕ). f t ∷ s) (take_put f k (suc t) l (omega arith))

-- four bytes to a rent
rents_long : (tr pl : List ℕ) → section_tried tr pl ≡ passes → length (rents_part (shape_of (requests_at tr)) pl) / 4 ≡ requests_at tr
rents_long tr pl h =
    let e : length (rents_part (shape_of (requests_at tr)) pl) ≡ 4 * requests_at tr =
    simp (length-take, length-drop) (omega (arith, (section_sound tr pl h).long)) in
    omega (arith, e)

-- the rents that are read are the plan's
pub rents_read : (tr pl out : List ℕ) → section_tried tr pl ≡ passes → requests_at tr ≤ length out
    → take (requests_at tr) (rents_into (rents_of tr pl) out) ≡ plan_rents tr pl
rents_read tr pl out h l =
    rw h (rw (rents_long tr pl h) (take_put (rent_in (rents_part (shape_of (requests_at tr)) pl)) (requests_at tr) 0 out l))

-- so are those that are read into a list of as many places as a trace can have requests
module _ (tr pl out part last : List ℕ) (n : ℕ) (h : section_tried tr pl ≡ passes) (count : n ≡ requests_at tr)
    (read : last ≡ rents_into part out) (room : max_requests ≤ length out) where
  pub rents_lent : part ≡ rents_of tr pl → take n last ≡ plan_rents tr pl
  rents_lent e =
      let few = (sound_trace tr (section_trace tr pl h)).requests in
      rw (read, e, count) (rents_read tr pl out h (omega arith))

-- also where they are counted up to that many
pub rents_first : (tr pl out : List ℕ) (n : ℕ) → section_tried tr pl ≡ passes → n ≡ min (requests_at tr) max_requests
    → length out ≡ max_requests → take n (rents_into (rents_of tr pl) out) ≡ plan_rents tr pl
rents_first tr pl out n h count room =
    let few = (sound_trace tr (section_trace tr pl h)).requests in
    rents_lent tr pl out (rents_of tr pl) (rents_into (rents_of tr pl) out) n h (omega arith) refl (omega arith) refl
