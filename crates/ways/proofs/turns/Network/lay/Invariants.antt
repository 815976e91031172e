-- The loop lays one point and its request after the other, and counts the items that are held. Assumes nothing.
use Rattle.ways.proofs.Steps.{Measuring}
use Rattle.ways.proofs.turns.Network.lay.Given as goal

abbrev pub invariant-loop-t : goal.invariant-loop-t
invariant-loop-t l = let s = l.self in Measuring s.n s.fill l.k s.from.now s.charges.now s.flags.now s.worth.now l.initial.len l.len l.c l.t
