-- The line that is shown is that of what solve answered, so it may be printed.
use Rattle.std.proofs.Common.{replicate, arith}
use Rattle.model.specs.Refusals.{answered}
use Rattle.solver.proofs.Promise.{solve-answers}
use Rattle.least.proofs.Says.{spoken_line}
use Rattle.least.proofs.answer.Goals as goal

pub print-requires : goal.print-requires
print-requires g c =
    spoken_line c.args.trace.now (answered c.solve.result)
    (solve-answers c.args.trace.now (replicate 5137 0) _ _ (omega arith) c.solve.ensures)
    c.lay-size.ensures c.first.ensures
