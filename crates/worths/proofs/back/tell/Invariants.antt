-- The loop's invariant: from request t on the worths are told.
use Rattle.worths.proofs.Telling.{From}
use Rattle.worths.proofs.back.tell.Given as goal

abbrev pub invariant-loop-t : goal.invariant-loop-t
invariant-loop-t l = From l.trace l.n l.next l.initial.worth l.t l.worth
