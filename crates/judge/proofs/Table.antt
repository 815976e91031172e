-- Document 01's table, computed from the definitions.
use mathlib.Core.Path.{refl}
use Rattle.fields.specs.Bytes.{num_at, bytes_of}
use Rattle.model.specs.Model.{cost, leasts, rents_all, floor}
use Rattle.trace.specs.TraceFile.{trace_tried}
use Rattle.plan.specs.PlanFile.{plan_tried, section_tried, plan_bytes}
use Rattle.replay.specs.Replay.{flags_tried}
use Rattle.audit.specs.Audit.{audit_tried}
use Rattle.floor.specs.Floor.{floor_tried}
use Rattle.judge.specs.Judge.{judge_tried}
use Rattle.judge.specs.Table.{AllRight, rows}

-- every row, over the bytes of its trace and its plan
pub table : AllRight rows
unfolding num_at bytes_of cost leasts rents_all floor trace_tried plan_tried section_tried plan_bytes flags_tried audit_tried floor_tried judge_tried
table =
    (refl, (refl, (refl, ((refl, refl), ((refl, refl), (refl, (refl, (refl, (refl, (refl, (refl, (refl, (refl, (refl, tt))))))))))))))
