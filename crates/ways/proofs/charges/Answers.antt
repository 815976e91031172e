use borrow.Author.Rules.{rules}
use native.Mathlib.Omega.{arith}
use Rattle.ways.proofs.Steps.{charging_start, charging_turn, charging_end}
use Rattle.ways.proofs.charges.Goals as goal

pub loop-t-init : goal.loop-t-init
loop-t-init c = charging_start _ _

pub loop-t-preserved : goal.loop-t-preserved
loop-t-preserved c =
    let l = c.loop-t in
    charging_turn _ _ l.charge-items l.t _ l.invariant (omega (arith, l.auto.charge-items, c.loop-t-test.true)) c.charge.ensures

pub returns-after-loop-t : goal.returns-after-loop-t
returns-after-loop-t c =
    charging_end c.requests-n.ensures.0 c.if-n-le-MAX.true (search rules) c.loop-t.invariant c.loop-t-test.false
