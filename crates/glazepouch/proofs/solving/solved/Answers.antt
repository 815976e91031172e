-- What solve answers is what may be said of the trace: the buffer is long enough for every plan.
use Rattle.std.proofs.Common.{arith}
use Rattle.solver.proofs.Promise.{solve-answers}
use Rattle.glazepouch.proofs.solving.solved.Goals as goal

pub least-requires : goal.least-requires
least-requires g c = solve-answers c.args.trace.now c.args.plan.now _ _ (omega arith) c.solve-found.ensures
