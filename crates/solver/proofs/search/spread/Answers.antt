use Rattle.steps.proofs.SearchTurn.{spreads_pop}
use Rattle.steps.proofs.SearchWays.{spreads_next}
use Rattle.solver.proofs.search.spread.Goals as goal

pub loop-kind-init : goal.loop-kind-init
loop-kind-init c = spreads_pop c.requires.1 c.requires.2

pub loop-kind-preserved : goal.loop-kind-preserved
loop-kind-preserved c =
    spreads_next c.requires.0 c.loop-kind.invariant c.loop-kind-test.true (rw c.from.ensures at c.from-in-loop-kind.ensures) (rw c.from.ensures at c.offer.ensures)
