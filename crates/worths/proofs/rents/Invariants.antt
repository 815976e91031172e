-- The loop's invariant: the rents of the gaps before g are named.
use Rattle.worths.specs.Worths.{Rented}
use Rattle.worths.proofs.rents.Given as goal

abbrev pub invariant-loop-g : goal.invariant-loop-g
invariant-loop-g l = Rented l.worth l.g l.initial.rents l.rents
