use mathlib.Core.Path.{◌≡◌}
use native.Mathlib.Omega.{arith}
use native.Mathlib.Numerals.{add-one}
use Rattle.steps.proofs.Laying.{laid_few, laid_more, laid_cheap}
use Rattle.solver.proofs.slots.Slots.lay.Goals as goal

pub offset_bounds-self-lists : goal.offset_bounds-self-lists
offset_bounds-self-lists c = omega (arith, laid_few c.loop-k.invariant.1)

pub bounds-self-lists : goal.bounds-self-lists
bounds-self-lists c = omega (arith, laid_few c.loop-k.invariant.1)

pub returns-then-self-lists : goal.returns-then-self-lists
returns-then-self-lists c =
    let i = c.loop-k.invariant in
    (laid_more i.1 _ (omega arith) i.0 c.if-self-lists.true, i.2)

pub loop-k-preserved : goal.loop-k-preserved
loop-k-preserved c =
    let m = c.more.ensures in
    (c.loop-k.invariant.0, rw add-one m, laid_cheap m (omega arith))

pub returns : goal.returns
returns c =
    let i = c.loop-k.invariant in
    let e : c.loop-k.k ≡ c.args.w = omega (arith, c.loop-k.auto.k-end, c.loop-k-test.false) in
    (rw e at i.1, i.2)
