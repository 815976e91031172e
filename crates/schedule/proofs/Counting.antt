-- The loop that counts the items held: one request more changes the count by its item's flags.
use mathlib.Core.Path.{◌≡◌, sym, ◌∙◌, ap}
use Prim.Native.Nat.{ℕ, suc, ◌+◌, ◌-◌, ◌≤◌, ◌<◌}
use mir.Val.{bool_byte}
use native.Mathlib.Numerals.{add-one}
use native.Mathlib.Omega.{arith}
use mathlib.Core.Bool.{Bool, true, false}
use mathlib.Core.List.{List}
use Rattle.model.specs.Model.{items}
use Rattle.model.specs.Plans.{flags_in, occupancy}
use Rattle.model.proofs.Sums.{sum_zero}
use Rattle.model.proofs.Links.{occ-step}
use Rattle.trace.specs.TraceFile.{trace_in}
use Rattle.trace.proofs.Sound.{reqs_length}
use Rattle.replay.specs.Replay.{named}
use Rattle.replay.specs.Linked.{flag_at, held_by}
use Rattle.replay.proofs.Linked.{held_before}
use Rattle.replay.proofs.Steps.{as_number}
use Rattle.schedule.specs.Schedule.{bit_of}
use Rattle.schedule.specs.Counted.{Linked}

-- one or none
bit_few : (b : Bool) → bit_of b < 2
bit_few true = omega arith
bit_few false = omega arith

-- how many items gap g holds
abbrev pub holds : (tr flags : List ℕ) → (g : ℕ) → ℕ
holds tr flags g = occupancy (trace_in tr).reqs (named (trace_in tr) flags) g

-- s requests are counted
pub record Counting (tr flags : List ℕ) (count s : ℕ) : Type 0 where
  pub held : count ≡ holds tr flags s
  pub few : count ≤ s

pub counting_begins : (tr flags : List ℕ) → Counting tr flags 0 0
counting_begins tr flags = record { held = sym (sum_zero (items (trace_in tr).reqs)); few = omega arith }

module _ {tr flags prevs : List ℕ} {t count s : ℕ} (l : Linked tr flags prevs t) (c : Counting tr flags count s) (h : s ≤ t)
    {after before : ℕ} {a b : Bool}
    (ea : after ≡ bool_byte a) (ea' : a ≡ flag_at flags s) (eb : before ≡ bool_byte b) (eb' : b ≡ held_by flags prevs s) where
  -- the flag of request s comes, and that of the request before it goes
  changes : holds tr flags (suc s) + before ≡ count + after
  changes =
      let k = occ-step (trace_in tr).reqs (flags_in flags) s (omega (arith, l.inside, reqs_length tr)) in
      let p : before ≡ bit_of (held_by flags prevs s) = eb ∙ as_number _ _ eb' in
      let q : after ≡ bit_of (flag_at flags s) = ea ∙ as_number _ _ ea' in
      let w = ap bit_of (held_before l.back s (omega (arith, l.inside))) in
      omega (arith, k, p, q, w, c.held)

  pub counting_less : before ≤ count + after
  counting_less = omega (arith, changes)

  pub counting_on : Counting tr flags (count + after - before) (s + 1)
  counting_on =
      let few : after < 2 = omega (arith, ea, as_number _ _ ea', bit_few (flag_at flags s)) in
      record { held = rw add-one (omega (arith, changes)); few = omega (arith, c.few) }

-- all up to t are counted
pub counting_ends : {tr flags : List ℕ} {t count s : ℕ} → Counting tr flags count s → s ≡ suc t → count ≡ holds tr flags (suc t)
counting_ends {tr} {flags} {t} c e = c.held ∙ ap (holds tr flags) e
