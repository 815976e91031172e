-- From a sound plan to row 18: the floor of its rents is refused nothing, and its two sides decide.
use mathlib.Core.Path.{◌≡◌}
use Prim.Native.Nat.{ℕ, ◌*◌}
use mathlib.Core.Bool.{not}
use mathlib.Core.List.{List}
use borrow.Author.Tests.{eq-eqb}
use lib.ListN.{length}
use lib.IntN.{sub_ℕ}
use Rattle.model.specs.Model.{leasts, rents_all, floor}
use Rattle.model.specs.Plans.{rents_in}
use Rattle.model.specs.Refusals.{passes, row, answer}
use Rattle.model.proofs.Links.{length-listed}
use Rattle.trace.specs.TraceFile.{slots_at, requests_at, trace_in}
use Rattle.plan.specs.PlanFile.{shape_of, rents_part, rent_in}
use Rattle.audit.specs.Audit.{plan_rents, plan_cost, audit_tried}
use Rattle.floor.specs.Floor.{floor_tried}
use Rattle.judge.specs.Judge.{isℤ, judge_tried, judge_of}
use Rattle.judge.proofs.Passes.{SoundPair}

module _ (trace plan : List ℕ) (sound : SoundPair trace plan) where
  -- the floor of the plan's rents has no refusal
  pub floor_passes : floor_tried trace (plan_rents trace plan) ≡ passes
  unfolding floor_tried
  floor_passes =
      let n = requests_at trace in
      let e : length (plan_rents trace plan) ≡ n = length-listed (rent_in (rents_part (shape_of n) plan)) n 0 in
      rw (sound.trace, eq-eqb _ _ e) sound.rents

-- row 18 by the two sides of the floor
pub judged_by_sides : (trace plan : List ℕ) → audit_tried trace plan ≡ passes → judge_of trace plan
    ≡ answer (row (not (isℤ (sub_ℕ (leasts (trace_in trace) (rents_in (plan_rents trace plan)))
    (slots_at trace * rents_all (trace_in trace) (rents_in (plan_rents trace plan)))) (plan_cost trace plan))) 18 0 passes) (plan_cost trace plan)
unfolding judge_tried floor
judged_by_sides trace plan a = rw a
