-- The theorem at work: document 01's example, in its own bytes, and row A1 of its table.
use mathlib.Core.Path.{◌≡◌, refl}
use Prim.Native.Nat.{ℕ}
use mathlib.Core.List.{List, [], ◌∷◌}
use Rattle.fields.specs.Bytes.{num_at, bytes_of}
use Rattle.model.specs.Model.{Least, cost, leasts, rents_all, floor}
use Rattle.model.specs.Refusals.{fine}
use Rattle.trace.specs.TraceFile.{trace_tried, trace_in}
use Rattle.plan.specs.PlanFile.{plan_tried, section_tried}
use Rattle.replay.specs.Replay.{flags_tried}
use Rattle.audit.specs.Audit.{audit_tried}
use Rattle.judge.specs.Judge.{judge_tried, judge_of}
use Rattle.judge.specs.Table.{A, A1, trace_of, plan_of}
use Rattle.judge.proofs.Table.{table}
use Rattle.judge.proofs.Theorem.{accepted_least}

-- one slot, F = 2; a read at 10, a write at 7 and a read at 10, all of item 5
abbrev pub example_trace : List ℕ
example_trace =
    67 ∷ 84 ∷ 82 ∷ 1 ∷ 0 ∷ 1 ∷ 3 ∷ 0 ∷ 2 ∷ 0 ∷ 0 ∷ 0
    ∷ 5 ∷ 0 ∷ 0 ∷ 0 ∷ 10 ∷ 0 ∷ 0 ∷ 0
    ∷ 5 ∷ 0 ∷ 1 ∷ 0 ∷ 7 ∷ 0 ∷ 0 ∷ 0
    ∷ 5 ∷ 0 ∷ 0 ∷ 0 ∷ 10 ∷ 0 ∷ 0 ∷ 0 ∷ []

-- cost 19, flags 110, rents 0
abbrev pub example_plan : List ℕ
example_plan =
    67 ∷ 80 ∷ 76 ∷ 1 ∷ 0 ∷ 0 ∷ 3 ∷ 0 ∷ 19 ∷ 0 ∷ 0 ∷ 0 ∷ 0 ∷ 0 ∷ 0 ∷ 0 ∷ 1 ∷ 1 ∷ 0
    ∷ 0 ∷ 0 ∷ 0 ∷ 0 ∷ 0 ∷ 0 ∷ 0 ∷ 0 ∷ 0 ∷ 0 ∷ 0 ∷ 0 ∷ []

pub example_accepted : judge_of example_trace example_plan ≡ fine 19
unfolding num_at cost leasts rents_all floor trace_tried plan_tried section_tried flags_tried audit_tried judge_tried
example_accepted = refl

-- the program's `least 19`
pub example_least : Least (trace_in example_trace) 19
example_least = accepted_least example_trace example_plan 19 example_accepted

-- trace A with one slot costs at least 44, whatever is held
pub A1_least : Least (A 1 4) 44
unfolding num_at bytes_of
A1_least = accepted_least (trace_of A1) (plan_of A1) 44 table.1.0
