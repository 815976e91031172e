use Rattle.capi.proofs.Solved.{solved_coded}
use Rattle.capi.proofs.gp_solve.Goals as goal

pub coded-requires : goal.coded-requires
coded-requires c = solved_coded c.args.trace.now c.args.buffer.now c.solve.new.buffer c.solve.result c.solve.ensures
