use native.Mathlib.Omega.{arith}
use Rattle.decimal.proofs.Reading.{reading_on}
use Rattle.decimal.proofs.long.Goals as goal

pub loop-d-preserved : goal.loop-d-preserved
loop-d-preserved c =
    let d = c.in-Some.ensures in
    reading_on _ _ _ _ _ _ c.loop-d.invariant d.digit d.one (omega arith)
