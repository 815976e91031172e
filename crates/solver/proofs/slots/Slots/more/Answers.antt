use native.Mathlib.Omega.{arith}
use Rattle.steps.proofs.Laying.{laid_few}
use Rattle.steps.proofs.Turn.{turn_graph, turn-trail, turn-laid}
use Rattle.solver.proofs.slots.Slots.more.Goals as goal

pub shortest-requires : goal.shortest-requires
shortest-requires c = turn_graph c.requires.0 c.lengths.ensures

pub overflow_mul-n : goal.overflow_mul-n
overflow_mul-n c = omega (arith, laid_few c.requires.0)

pub overflow_add-n : goal.overflow_add-n
overflow_add-n c = omega (arith, laid_few c.requires.0)

pub walk-requires : goal.walk-requires
walk-requires c = turn-trail c.requires.0 c.lengths.ensures c.shortest.ensures (rw c.from.ensures at c.raise.ensures)

pub returns : goal.returns
returns c = turn-laid c.requires.0 c.lengths.ensures c.shortest.ensures (rw c.from.ensures at c.raise.ensures) c.requires.1 c.walk.ensures
