-- The loop's invariant: the new slot stands at node v, from which no more than `left` hops lead on.
use Rattle.trace.specs.TraceFile.{trace_in}
use Rattle.steps.specs.Slots.{Trail}
use Rattle.steps.proofs.Hops.{Walking}
use Rattle.solver.proofs.walk.walk.Given as goal

abbrev pub invariant-loop-v : goal.invariant-loop-v
invariant-loop-v l =
    (r : Trail (trace_in l.lists.trace.now) l.lists.header.requests l.k l.initial.flags l.worth l.hop) × Walking (trace_in l.lists.trace.now) l.k l.initial.flags l.worth r.rank l.v l.left l.flags

abbrev pub decreases-loop-v : goal.decreases-loop-v
decreases-loop-v l = l.left
