-- The pass from the last request to the first: `Passed` holds at each turn, and at the end the sum is over all items. Assumes nothing.
use Rattle.floor.proofs.Passed.{Passed}
use Rattle.floor.proofs.pass.leasts.Given as goal

abbrev pub invariant-loop-t : goal.invariant-loop-t
invariant-loop-t l = Passed l.trace l.rents l.prices l.total l.paid l.t
