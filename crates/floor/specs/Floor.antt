-- The floor of a trace and a list of rents, over the trace's bytes. Assumes nothing.
use Rattle.std.specs.Prelude.{ℕ, List, ℤ}
use Rattle.model.specs.Model.{floor}
use Rattle.model.specs.Plans.{rents_in}
use Rattle.model.specs.Refusals.{Tried, next, Answer, answer}
use Rattle.trace.specs.TraceFile.{requests_at, trace_tried, trace_in}
use Rattle.plan.specs.PlanFile.{rents_tried}
use Rattle.replay.specs.Replay.{count_tried}

-- rows 1 to 8, 11, 17
unfoldable pub floor_tried : (trace rents : List ℕ) → Tried
floor_tried tr rents = next (trace_tried tr) (next (count_tried (requests_at tr) rents) (rents_tried 0 rents))

-- the floor
abbrev pub floor_of : (trace rents : List ℕ) → Answer ℤ
floor_of tr rents = answer (floor_tried tr rents) (floor (trace_in tr) (rents_in rents))
