use borrow.Author.Rules.{rules}
use mathlib.Core.Path.{◌≡◌, ◌∙◌}
use Prim.Native.Nat.{◌+◌, ◌/◌, min}
use native.Mathlib.Numerals.{add-one}
use native.Mathlib.Omega.{arith}
use lib.ListN.{length}
use Rattle.plan.specs.PlanFile.{rent_in}
use Rattle.plan.proofs.Reading.{put_one, put_fewer}
use Rattle.plan.proofs.read_rents.Goals as goal

pub loop-t-preserved : goal.loop-t-preserved
loop-t-preserved c =
    let l = c.loop-t in
    let a = c.args in
    let z : 0 + l.t ≡ l.t = omega arith in
    (l.invariant.0, search rules, rw (add-one, l.invariant.2, c.rent.ensures.0) (rw z at (put_one (rent_in a.part.now) l.t 0 a.out.now (omega arith))))

pub returns : goal.returns
returns c =
    let l = c.loop-t in
    let a = c.args in
    let e : l.t ≡ min (length a.part.now / 4) (length a.out.now) = omega arith in
    l.invariant.2 ∙ (rw e (put_fewer (rent_in a.part.now) (length a.part.now / 4) 0 a.out.now))
