-- `stands` meets its contract: t flags stand where they may, and the others decide. Assumes nothing.
use Rattle.replay.proofs.Steps.{StandsLeft}
use Rattle.replay.proofs.rows.Sound.stands.Given as goal

abbrev pub invariant-loop-t : goal.invariant-loop-t
invariant-loop-t l = StandsLeft l.self.trace.now l.self.kept.flags.now l.t
