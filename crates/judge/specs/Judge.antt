-- The judge: the audit, then 18. Assumes nothing.
use Rattle.std.specs.Prelude.{ℕ, Bool, false, not, List, eqb, ℤ, pos, negsuc}
use Rattle.model.specs.Model.{floor}
use Rattle.model.specs.Plans.{rents_in}
use Rattle.model.specs.Refusals.{Tried, passes, row, next, Answer, answer}
use Rattle.trace.specs.TraceFile.{trace_in}
use Rattle.audit.specs.Audit.{plan_rents, plan_cost, audit_tried}

-- whether a signed number is this one
abbrev pub isℤ : ℤ → ℕ → Bool
isℤ (pos m) c = eqb m c
isℤ (negsuc m) c = false

-- the floor of the plan's rents
abbrev pub plan_floor : (trace plan : List ℕ) → ℤ
plan_floor tr pl = floor (trace_in tr) (rents_in (plan_rents tr pl))

-- rows 1 to 18
unfoldable pub judge_tried : (trace plan : List ℕ) → Tried
judge_tried tr pl = next (audit_tried tr pl) (row (not (isℤ (plan_floor tr pl) (plan_cost tr pl))) 18 0 passes)

-- the verdict: acceptance gives the cost
abbrev pub judge_of : (trace plan : List ℕ) → Answer ℕ
judge_of tr pl = answer (judge_tried tr pl) (plan_cost tr pl)
