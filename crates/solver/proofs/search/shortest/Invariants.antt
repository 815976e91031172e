-- `search::shortest` meets its contract: each turn takes a node from the stack, which is filled from the list when it is empty.
-- The measure: a turn takes one node from the stack, and puts on it no more than it reaches. Assumes nothing.
use Prim.Native.Nat.{suc, ◌*◌}
use Rattle.frontier.specs.Frontier.{desk_of}
use Rattle.steps.specs.Search.{ways_by, Runs}
use Rattle.solver.proofs.search.shortest.Given as goal

abbrev pub invariant-loop-current : goal.invariant-loop-current
invariant-loop-current l =
    Runs (suc (2 * l.ways.n)) l.ways.n (ways_by l.ways.from.now l.ways.len.now) (desk_of l.search) l.current l.left

abbrev pub decreases-loop-current : goal.decreases-loop-current
decreases-loop-current l = l.left
