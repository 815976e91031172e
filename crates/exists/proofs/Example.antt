-- The theorem at work: document 01's example has an accepted plan, and whatever plan that is, it costs 19. Assumes nothing.
use mathlib.Core.Path.{◌≡◌, refl}
use Rattle.fields.specs.Bytes.{num_at}
use Rattle.model.specs.Refusals.{passes}
use Rattle.model.proofs.Unique.{least_unique}
use Rattle.trace.specs.TraceFile.{trace_tried, trace_in}
use Rattle.judge.proofs.Theorem.{accepted_least}
use Rattle.judge.proofs.Example.{example_trace, example_least}
use Rattle.exists.proofs.Accepted.{every_trace_has_an_accepted_plan}

-- its trace is sound
pub example_sound : trace_tried example_trace ≡ passes
unfolding num_at trace_tried
example_sound = refl

-- the cost at which the plan is accepted is the program's `least 19`
pub example_costs_19 : (every_trace_has_an_accepted_plan example_trace example_sound).1 ≡ 19
example_costs_19 =
    let (plan, c, e) = every_trace_has_an_accepted_plan example_trace example_sound in
    least_unique (trace_in example_trace) c 19 (accepted_least example_trace plan c e) example_least
