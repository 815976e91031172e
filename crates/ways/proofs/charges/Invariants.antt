-- The loop lays one charge after the other. Assumes nothing.
use Rattle.ways.proofs.Steps.{Charging}
use Rattle.ways.proofs.charges.Given as goal

abbrev pub invariant-loop-t : goal.invariant-loop-t
invariant-loop-t l = Charging l.trace l.initial.charge-items l.charge-items l.t
