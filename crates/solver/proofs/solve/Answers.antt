use Rattle.std.proofs.lemmas.Result.{err_from_is_err_and}
use native.Mathlib.Omega.{arith}
use Rattle.solver.proofs.Solving.{refused_permitted, short-permitted, accepted-permitted}
use Rattle.solver.proofs.solve.Goals as goal

pub returns-in_err-header : goal.returns-in_err-header
returns-in_err-header c =
    let p = err_from_is_err_and c.from_residual.result c.from_residual.ensures.1 in
    rw (p.1, p.2) (refused_permitted c.args.buffer.now c.in_err-header.ensures)

pub returns-then-buffer-size : goal.returns-then-buffer-size
returns-then-buffer-size c = short-permitted c.in_ok-header.ensures c.args.buffer.now (omega (arith, c.size.ensures))

pub returns : goal.returns
returns c = accepted-permitted c.in_ok-header.ensures c.args.buffer.now (omega (arith, c.size.ensures)) c.write_least.ensures
