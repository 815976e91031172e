-- `links::chain::link` meets its contract: the requests from t on are chained and have their next requests. Assumes nothing.
use lib.ListN.{length}
use Rattle.links.proofs.Chains.{Linking}
use Rattle.links.proofs.chain.link.Given as goal

abbrev pub invariant-loop-t : goal.invariant-loop-t
invariant-loop-t l = Linking l.items l.initial.next l.initial.chain l.head l.next l.chain (length l.items) l.t
