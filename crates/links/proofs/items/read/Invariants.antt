-- `links::items::read` meets its contract: the places passed have their items. Assumes nothing.
use lib.ListN.{length}
use Rattle.links.proofs.Readings.{Reading}
use Rattle.links.proofs.items.read.Given as goal

abbrev pub invariant-loop-t : goal.invariant-loop-t
invariant-loop-t l = Reading l.trace l.items (length l.initial.items) l.t
