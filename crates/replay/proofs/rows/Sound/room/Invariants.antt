-- `room` meets its contract: the gaps up to t have room, and the others decide. Assumes nothing.
use Rattle.replay.proofs.Steps.{RoomLeft}
use Rattle.replay.proofs.rows.Sound.room.Given as goal

abbrev pub invariant-loop-t : goal.invariant-loop-t
invariant-loop-t l = RoomLeft l.self.trace.now l.self.kept.flags.now l.within l.t
