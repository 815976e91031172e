-- `search::spread` meets its contract: after each turn one kind more of the ways into u is offered. Assumes nothing.
use Prim.Native.Nat.{suc, ◌*◌, ◌-◌}
use Rattle.frontier.specs.Frontier.{desk_of}
use Rattle.steps.specs.Search.{ways_by}
use Rattle.steps.proofs.SearchOffer.{Spreads}
use Rattle.solver.proofs.search.spread.Given as goal

abbrev pub invariant-loop-kind : goal.invariant-loop-kind
invariant-loop-kind l =
    Spreads (suc (2 * l.ways.n)) l.ways.n (ways_by l.ways.from.now l.ways.len.now) (desk_of l.search) l.current (l.left - 1) l.u l.kind
