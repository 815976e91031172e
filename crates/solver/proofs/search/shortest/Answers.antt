use mathlib.Core.Path.{◌≡◌}
use Prim.Native.Nat.{suc, ◌*◌}
use native.Mathlib.Omega.{arith}
use lib.ListN.{length}
use Rattle.frontier.specs.Frontier.{desk_of}
use Rattle.steps.specs.Search.{ways_by}
use Rattle.steps.proofs.SearchTurn.{even_of, runs_begin, Ready, ready_stay, ready-taken}
use Rattle.steps.proofs.SearchFound.{runs_found}
use Rattle.solver.proofs.search.shortest.Goals as goal
use Rattle.solver.proofs.search.shortest.Goals.{else-search-eq0, then-search-eq0}
use Rattle.solver.proofs.search.shortest.Goals.{Joined-search-eq0}

-- where the arms meet, a node stands on the stack
ready : (c : Joined-search-eq0) →
    let ways = c.args.ways.now in
    let j = c.if-search-eq0 in
    Ready (suc (2 * ways.n)) ways.n (ways_by ways.from.now ways.len.now) (desk_of j.search) j.current c.loop-current.left
ready c =
    let R = c.loop-current.invariant in
    elim c.if-search-eq0.branch [
      | then-search-eq0 w ↦ let f = w.refill-current.ensures in
          rw (w.search-is, w.current-is)
          (ready-taken R (omega arith) (omega arith) c.requires.chain w.if-search-eq0.true f.list_after f.waiting_value f.low_value f.stack_after f.top_value f.distances_kept f.hops_kept)
      | else-search-eq0 w ↦ rw (w.search-is, w.current-is) (ready_stay R w.if-search-eq0.false)
    ]

pub loop-current-init : goal.loop-current-init
loop-current-init c =
    let search = c.args.search.now in
    let hop : length search.hop ≡ 2050 = grind arith in
    let stack : length search.stack ≡ 2050 = grind arith in
    let list : length search.list ≡ 2050 = grind arith in
    runs_begin _ _ _ _ _ _ _ (omega (arith, c.requires.few)) (omega arith) (even_of _ _ c.fresh-search.ensures) hop stack list

pub spread-requires : goal.spread-requires
spread-requires c =
    let at = ready (goal.at.spread-requires c).Joined-search-eq0 in
    (c.requires, at.runs, at.some)

pub overflow_sub-left : goal.overflow_sub-left
overflow_sub-left c = let at = ready (goal.at.overflow_sub-left c).Joined-search-eq0 in omega (arith, at.some, at.runs.bound)

pub loop-current-smaller : goal.loop-current-smaller
loop-current-smaller c = let at = ready (goal.at.loop-current-smaller c).Joined-search-eq0 in omega (arith, at.some, at.runs.bound)

pub returns : goal.returns
returns c = runs_found c.loop-current.invariant (omega arith) (λ l. omega (arith, c.loop-current-test.false))
