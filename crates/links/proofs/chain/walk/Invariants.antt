-- `links::chain::walk` meets its contract: no request of the item stands before the one that the walk has come to. Assumes nothing.
use Prim.Native.Nat.{◌-◌}
use lib.ListN.{length}
use Rattle.links.proofs.Chains.{Walking}
use Rattle.links.proofs.chain.walk.Given as goal

abbrev pub invariant-loop-j : goal.invariant-loop-j
invariant-loop-j l = Walking l.items (length l.items) l.t l.item l.j

abbrev pub decreases-loop-j : goal.decreases-loop-j
decreases-loop-j l = length l.items - l.j
