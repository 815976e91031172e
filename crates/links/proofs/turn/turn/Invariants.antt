-- `links::turn::turn` meets its contract: the requests passed stand at their next ones. Assumes nothing.
use lib.ListN.{length}
use Rattle.links.proofs.Turns.{Turning}
use Rattle.links.proofs.turn.turn.Given as goal

abbrev pub invariant-loop-t : goal.invariant-loop-t
invariant-loop-t l = Turning l.next l.initial.prev l.prev (length l.next) l.t
