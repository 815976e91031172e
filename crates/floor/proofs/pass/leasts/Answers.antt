use mathlib.Core.Path.{◌≡◌, refl, ◌∙◌}
use Prim.Native.Nat.{◌<◌}
use native.Mathlib.Omega.{arith}
use mathlib.Core.List.{List}
use lib.ListN.{length, replicate, length-set, length-replicate}
use lib.Seq.{get_or-set_same}
use Rattle.floor.specs.declared.pass.Price.{Price}
use Rattle.floor.proofs.Lists.{paid_top}
use Rattle.floor.proofs.Passed.{past, passed_start, passed_all, at_suc, Due, due, Done, done, passed-step}
use Rattle.floor.proofs.pass.leasts.Goals as goal
use Rattle.floor.proofs.pass.leasts.Goals.{After-from-in-loop-t, After-from_in-hold}

-- what is known once the next request of request t's item is read
known : (c : After-from-in-loop-t) → Due c.requires.0 (at_suc c.loop-t.invariant c.loop-t-test.true) c.from.ensures c.from-in-loop-t.ensures refl
known c = due c.requires.0 (at_suc c.loop-t.invariant c.loop-t-test.true) c.from.ensures c.from-in-loop-t.ensures refl

-- and once the request has its two prices
priced : (c : After-from_in-hold) → Done c.requires.0 (at_suc c.loop-t.invariant c.loop-t-test.true) c.from.ensures c.from-in-loop-t.ensures refl c.from-none.ensures c.from-held.ensures c.from_out-miss.ensures c.from_in-hold.ensures
priced c = done c.requires.0 (at_suc c.loop-t.invariant c.loop-t-test.true) c.from.ensures c.from-in-loop-t.ensures refl c.from-none.ensures c.from-held.ensures c.from_out-miss.ensures c.from_in-hold.ensures

pub loop-t-init : goal.loop-t-init
loop-t-init c =
    let zeros : List Price = replicate 1025 (record { out = 0; held = 0 }) in
    let l : length zeros ≡ 1025 = length-replicate {A = Price} 1025 (record { out = 0; held = 0 }) in
    let h : c.requests-n.result < length zeros = omega (arith, l, c.requires.0.sound.requests, c.requests-n.ensures.0) in
    passed_start c.requires.0 c.requests-n.ensures.0 c.requires.1 (length-set zeros c.requests-n.result (past c.args.all) ∙ l)
    (λ d. get_or-set_same zeros c.requests-n.result (past c.args.all) d h)

pub bounds-prices-from : goal.bounds-prices-from
bounds-prices-from c = (known c).next_place

pub overflow_sub-kept : goal.overflow_sub-kept
overflow_sub-kept c = rw c.from-held.ensures (known (goal.at.overflow_sub-kept c).After-from-in-loop-t).below

pub from_out-miss-requires : goal.from_out-miss-requires
from_out-miss-requires c = omega (arith, known (goal.at.from_out-miss-requires c).After-from-in-loop-t, c.from-none.ensures, c.from-held.ensures)

pub from_in-hold-requires : goal.from_in-hold-requires
from_in-hold-requires c = omega (arith, known (goal.at.from_in-hold-requires c).After-from-in-loop-t, c.from-none.ensures, c.from-held.ensures)

pub overflow_add-total : goal.overflow_add-total
overflow_add-total c = omega (arith, c.from-none.ensures, known (goal.at.overflow_add-total c).After-from-in-loop-t, priced c)

pub overflow_sub-total : goal.overflow_sub-total
overflow_sub-total c = omega (arith, c.from-none.ensures, priced (goal.at.overflow_sub-total c).After-from_in-hold)

pub overflow_add-prices : goal.overflow_add-prices
overflow_add-prices c = omega (arith, known (goal.at.overflow_add-prices c).After-from-in-loop-t, priced (goal.at.overflow_add-prices c).After-from_in-hold)

pub overflow_cast-prices : goal.overflow_cast-prices
overflow_cast-prices c =
    let q = paid_top c.args.rents.now 2000000 (length c.args.rents.now) c.requires.0.within in
    omega (arith, q, c.requires.0.sound.requests, c.requires.0.count, c.requires.1)

pub overflow_cast-prices-in-loop-t : goal.overflow_cast-prices-in-loop-t
overflow_cast-prices-in-loop-t c =
    omega (arith, known (goal.at.overflow_cast-prices-in-loop-t c).After-from-in-loop-t, priced (goal.at.overflow_cast-prices-in-loop-t c).After-from_in-hold)

pub overflow_cast-prices-in-loop-t-2 : goal.overflow_cast-prices-in-loop-t-2
overflow_cast-prices-in-loop-t-2 c =
    omega (arith, known (goal.at.overflow_cast-prices-in-loop-t-2 c).After-from-in-loop-t, priced (goal.at.overflow_cast-prices-in-loop-t-2 c).After-from_in-hold)

pub loop-t-preserved : goal.loop-t-preserved
loop-t-preserved c =
    rw c.from-none.ensures (passed-step c.requires.0 (at_suc c.loop-t.invariant c.loop-t-test.true) c.from.ensures c.from-in-loop-t.ensures refl
    c.from-none.ensures c.from-held.ensures c.from_out-miss.ensures c.from_in-hold.ensures)

pub returns : goal.returns
returns c =
    let l = c.loop-t in
    let q : l.t ≡ 0 = omega arith in
    passed_all (rw q at l.invariant)
