-- The loop's invariant: the worths before place v have grown.
use Rattle.worths.specs.Worths.{Raised}
use Rattle.worths.proofs.raise.Given as goal

abbrev pub invariant-loop-v : goal.invariant-loop-v
invariant-loop-v l = Raised l.dist l.v l.d l.initial.worth l.worth
