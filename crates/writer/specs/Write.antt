-- Writing a plan from a trace, flags and rents into a lent buffer. Assumes nothing.
use Rattle.std.specs.Prelude.{ℕ, List, ◌++◌, length, drop, ltb}
use Rattle.model.specs.Model.{cost}
use Rattle.model.specs.Refusals.{Tried, passes, refusal, row, next, Answer, answer}
use Rattle.trace.specs.TraceFile.{requests_at, trace_tried, trace_in}
use Rattle.plan.specs.PlanFile.{shape_of, length_of, rents_tried, plan_bytes}
use Rattle.replay.specs.Replay.{named, count_tried, flags_tried}

-- row 19, for a buffer of so many bytes
abbrev pub buffer_tried : (n room : ℕ) → Tried
buffer_tried n room = row (ltb room (length_of (shape_of n))) 19 0 passes

-- the cost that is worked out
abbrev pub written_cost : (trace flags : List ℕ) → ℕ
written_cost tr flags = cost (trace_in tr) (named (trace_in tr) flags)

-- rows 1 to 8, 11 for either list, 13, 14, 15, 17, 19
unfoldable pub write_tried : (trace flags rents : List ℕ) → (room : ℕ) → Tried
write_tried tr flags rents room =
    next (trace_tried tr)
    (next (count_tried (requests_at tr) flags)
    (next (count_tried (requests_at tr) rents)
    (next (flags_tried (trace_in tr) flags)
    (next (rents_tried 0 rents)
    (buffer_tried (requests_at tr) room)))))

-- what the call answers: the plan's cost
abbrev pub write_of : (trace flags rents : List ℕ) → (room : ℕ) → Answer ℕ
write_of tr flags rents room = answer (write_tried tr flags rents room) (written_cost tr flags)

-- a lent buffer after a call that wrote these bytes from its start, or refused
abbrev pub laid : Tried → (bytes buffer : List ℕ) → List ℕ
laid passes bytes buffer = bytes ++ drop (length bytes) buffer
laid (refusal number place) bytes buffer = buffer

-- what the buffer then holds: the plan's bytes and the rest as it was, or all as it was
abbrev pub buffer_of : (trace flags rents buffer : List ℕ) → List ℕ
buffer_of tr flags rents buffer =
    laid (write_tried tr flags rents (length buffer)) (plan_bytes (written_cost tr flags) flags rents) buffer
