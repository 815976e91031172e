-- From the rows that are tried to the answers of `sides` and `floor`, and that each answer is the only one. Assumes nothing.
use mathlib.Core.Path.{◌≡◌}
use Prim.Native.Nat.{ℕ, ◌+◌, ◌<◌}
use native.Mathlib.Omega.{arith}
use mathlib.Core.Bool.{not}
use mathlib.Core.List.{List, []}
use lib.Dec.{eqb}
use lib.ListN.{length}
use lib.IntN.{ℤ, pos, sub_ℕ}
use Rattle.std.specs.Prelude.{Result}
use borrow.Author.Tests.{eq-eqb, ne_eqb, eqb-true, not-false}
use Rattle.model.specs.Model.{floor}
use Rattle.model.specs.Plans.{rents_in}
use Rattle.model.specs.Refusals.{passes, refusal, next, fine, refused, answered}
use Rattle.model.specs.declared.Refusal.{Refusal}
use Rattle.model.proofs.Duality.{weak_duality, sub_eq, eq_sub}
use Rattle.model.proofs.Sanity.{nothing, nothing_allowed}
use Rattle.model.proofs.Bounds.{no_plan_above}
use Rattle.model.proofs.Refusals.{row_passes, next_passes, answer_fine, answer_refused, answered_unique}
use Rattle.trace.specs.TraceFile.{requests_at, trace_tried, trace_in}
use Rattle.trace.proofs.Sound.{sound_trace, trace_within}
use Rattle.plan.specs.PlanFile.{rents_tried}
use Rattle.plan.proofs.Sound.{rents_sound}
use Rattle.replay.specs.Replay.{count_tried}
use Rattle.links.specs.Linked.{nexts_in}
use Rattle.links.proofs.Answered.{next_at}
use Rattle.floor.specs.Floor.{floor_tried, floor_of}
use Rattle.floor.specs.Sides.{pair_in, sides_of}
use Rattle.floor.specs.Pass.{Ready}
use Rattle.floor.specs.declared.Pair.{Pair}
use Rattle.floor.proofs.Passed.{rents_all_lem, taken_top}

-- ---- the rows

module _ (tr rents : List ℕ) where
  -- the trace's refusals come first
  pub tried_trace : (number place : ℕ) → trace_tried tr ≡ refusal number place → floor_tried tr rents ≡ refusal number place
  unfolding floor_tried
  tried_trace number place e = rw e

  module _ (e : trace_tried tr ≡ passes) where
    -- then the count of rents
    pub tried-count : (length rents ≡ requests_at tr → ⊥) → floor_tried tr rents ≡ refusal 11 0
    unfolding floor_tried
    tried-count n = rw (e, ne_eqb (length rents) (requests_at tr) n)

    -- then the rents
    pub tried-rents : length rents ≡ requests_at tr → floor_tried tr rents ≡ rents_tried 0 rents
    unfolding floor_tried
    tried-rents n = rw (e, eq-eqb (length rents) (requests_at tr) n)

    -- what the pass is given where none of them holds
    pub ready : (old : List ℕ) → length rents ≡ requests_at tr → rents_tried 0 rents ≡ passes → Ready tr rents (nexts_in tr old)
    ready old n s = record {
      sound = sound_trace tr e;
      count = n;
      within = rents_sound 0 rents s;
      nexts = λ t l. next_at tr old t e l;
    }

  -- ---- from the two sides to the floor

  -- a refusal is the same
  pub floor_refused : (number place : ℕ) → refused number place ≡ sides_of tr rents → refused number place ≡ floor_of tr rents
  floor_refused number place e = rw (answer_refused (floor_tried tr rents) (pair_in tr rents) number place e)

  module _ (p : Pair) (e : fine p ≡ sides_of tr rents) where
    pair_is : (floor_tried tr rents ≡ passes) × (p ≡ pair_in tr rents)
    pair_is = answer_fine (floor_tried tr rents) (pair_in tr rents) p e

    -- the floor is the one side less the other
    pub floor-fine : fine (sub_ℕ p.leasts p.taken) ≡ floor_of tr rents
    unfolding floor
    floor-fine = rw (pair_is.0, pair_is.1)

    -- both sides are small: nothing held costs no more than any plan may
    pub pair_small : (p.leasts < 4611686018427387904) × (p.taken < 4611686018427387904)
    unfolding floor_tried
    pair_small =
        let (t, q) = pair_is in
        let (a, b) = next_passes (trace_tried tr) (next (count_tried (requests_at tr) rents) (rents_tried 0 rents)) t in
        let (d, f) = next_passes (count_tried (requests_at tr) rents) (rents_tried 0 rents) b in
        let n = eqb-true (length rents) (requests_at tr) (not-false _ (row_passes (not (eqb (length rents) (requests_at tr))) 11 0 passes d).0) in
        let k = ready a [] n f in
        let top = rw (← rents_all_lem k) at (taken_top k) in
        let w = weak_duality (trace_in tr) (rents_in rents) nothing (nothing_allowed (trace_in tr)) in
        let m = no_plan_above (trace_in tr) (trace_within tr (sound_trace tr a)) nothing in
        rw q (omega (arith, top, w, m), omega (arith, top))

  -- the floor is a natural number c exactly when the least prices are c and w times the rents
  pub sides_floor : (c : ℕ) → (floor (trace_in tr) (rents_in rents) ≡ pos c → (pair_in tr rents).leasts ≡ c + (pair_in tr rents).taken)
      × ((pair_in tr rents).leasts ≡ c + (pair_in tr rents).taken → floor (trace_in tr) (rents_in rents) ≡ pos c)
  unfolding floor
  sides_floor c = (
    sub_eq (pair_in tr rents).leasts (pair_in tr rents).taken c,
    eq_sub (pair_in tr rents).leasts (pair_in tr rents).taken c,
  )

-- ---- one answer

-- any two answers for the sides that the promise permits coincide
pub sides_unique : (tr rents : List ℕ) (a b : Result Pair Refusal) → answered a ≡ sides_of tr rents → answered b ≡ sides_of tr rents → a ≡ b
sides_unique tr rents a b x y = answered_unique a b (sides_of tr rents) x y

-- any two floors that the promise permits coincide
pub floor_unique : (tr rents : List ℕ) (a b : Result ℤ Refusal) → answered a ≡ floor_of tr rents → answered b ≡ floor_of tr rents → a ≡ b
floor_unique tr rents a b x y = answered_unique a b (floor_of tr rents) x y
