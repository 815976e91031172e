use mathlib.Core.Path.{◌∙◌}
use Prim.Native.Nat.{◌+◌}
use native.Mathlib.Omega.{arith}
use Rattle.trace.specs.TraceFile.{record_at}
use Rattle.trace.proofs.Places.{num_level}
use Rattle.trace.proofs.cost.Goals as goal

pub returns : goal.returns
returns c =
    let a = c.args in
    let p = c.record_at in
    (c.number_at.ensures.0 ∙ num_level 4 (p.result + 4) (record_at a.trace.now a.t + 4) a.trace.now (omega (arith, p.ensures.0)), c.number_at.ensures.1)
