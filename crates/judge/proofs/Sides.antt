-- What the judge knows of the two sides of the floor that it is handed.
use mathlib.Core.Path.{◌≡◌, sym, ◌∙◌}
use Prim.Native.Nat.{ℕ}
use mathlib.Core.Bool.{not}
use mathlib.Core.List.{List}
use lib.IntN.{sub_ℕ}
use Rattle.model.specs.Refusals.{passes, row, Answer, fine, answer}
use Rattle.audit.specs.Audit.{plan_rents, plan_cost, audit_tried}
use Rattle.floor.specs.Sides.{pair_in, sides_of}
use Rattle.floor.specs.declared.Pair.{Pair}
use Rattle.judge.specs.Judge.{isℤ, judge_of}
use Rattle.judge.proofs.Passes.{SoundPair}
use Rattle.judge.proofs.Weighing.{floor_passes, judged_by_sides}

module _ (trace plan : List ℕ) (sound : SoundPair trace plan) where
  -- the two sides of the plan's floor are answered
  pub sides_known : (rents : List ℕ) (s : Answer Pair) → rents ≡ plan_rents trace plan → s ≡ sides_of trace rents
      → s ≡ fine (pair_in trace (plan_rents trace plan))
  sides_known rents s e h = h ∙ rw (e, floor_passes trace plan sound)

-- they decide row 18
pub sides_decide : (trace plan : List ℕ) → audit_tried trace plan ≡ passes → (p : Pair) (c : ℕ) (v : Answer ℕ)
    → fine p ≡ fine (pair_in trace (plan_rents trace plan)) → c ≡ plan_cost trace plan
    → v ≡ answer (row (not (isℤ (sub_ℕ p.leasts p.taken) c)) 18 0 passes) c → v ≡ judge_of trace plan
sides_decide trace plan a p c v e q h =
    let k : p ≡ pair_in trace (plan_rents trace plan) = cc in
    h ∙ rw (k, q) (sym (judged_by_sides trace plan a))
