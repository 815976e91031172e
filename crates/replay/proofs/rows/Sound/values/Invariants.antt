-- `values` meets its contract: t flags are 0 or 1, and the others decide. Assumes nothing.
use Rattle.replay.proofs.Steps.{ValuesLeft}
use Rattle.replay.proofs.rows.Sound.values.Given as goal

abbrev pub invariant-loop-t : goal.invariant-loop-t
invariant-loop-t l = ValuesLeft l.self.kept.flags.now l.t
