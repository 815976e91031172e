-- `totals` meets its contract: what is counted and what is left are the whole. Assumes nothing.
use Rattle.replay.proofs.Counting.{TotalsLeft}
use Rattle.replay.proofs.rows.Sound.totals.Given as goal

abbrev pub invariant-loop-t : goal.invariant-loop-t
invariant-loop-t l = TotalsLeft l.self.trace.now l.self.kept.flags.now l.sum l.t
