-- The loop's invariant: so many requests are counted.
use Rattle.schedule.proofs.Counting.{Counting}
use Rattle.schedule.proofs.numbers.within.Given as goal

abbrev pub invariant-loop-s : goal.invariant-loop-s
invariant-loop-s l = Counting l.trace l.kept.flags.now l.count l.s
