-- The audit of a trace and a plan: refusals 1 to 17, or the totals. Assumes nothing.
use Rattle.std.specs.Prelude.{ℕ, not, List, eqb, take, min}
use Rattle.model.specs.Model.{cost}
use Rattle.model.specs.Refusals.{Tried, passes, row, next, Answer, answer}
use Rattle.trace.specs.TraceFile.{requests_at, trace_in}
use Rattle.model.specs.Numbers.{max_requests}
use Rattle.plan.specs.PlanFile.{shape_of, flags_part, rents_of, rents_at, stated_at, section_tried, rents_tried}
use Rattle.plan.specs.Reading.{rents_into}
use Rattle.replay.specs.Replay.{named, flags_tried, Totals, totals_of}

-- the flags that a plan has for a trace
abbrev pub plan_flags : (trace plan : List ℕ) → List ℕ
plan_flags tr pl = flags_part (shape_of (requests_at tr)) pl

-- the rents that a plan has for a trace
abbrev pub plan_rents : (trace plan : List ℕ) → List ℕ
plan_rents tr pl = rents_at (shape_of (requests_at tr)) pl

-- the first places of a lent list that the plan's rents are read into, one for each request
abbrev pub rents_read : (trace plan room : List ℕ) → List ℕ
rents_read tr pl room = take (min (requests_at tr) max_requests) (rents_into (rents_of tr pl) room)

-- the replayed cost
abbrev pub plan_cost : (trace plan : List ℕ) → ℕ
plan_cost tr pl = cost (trace_in tr) (named (trace_in tr) (plan_flags tr pl))

-- rows 1 to 17
unfoldable pub audit_tried : (trace plan : List ℕ) → Tried
audit_tried tr pl =
    next (section_tried tr pl)
    (next (flags_tried (trace_in tr) (plan_flags tr pl))
    (next (row (not (eqb (stated_at pl) (plan_cost tr pl))) 16 0 passes)
    (rents_tried 0 (plan_rents tr pl))))

-- the audit
abbrev pub audit_of : (trace plan : List ℕ) → Answer Totals
audit_of tr pl = answer (audit_tried tr pl) (totals_of (trace_in tr) (plan_flags tr pl))
