use mathlib.Core.Path.{◌∙◌}
use native.Mathlib.Omega.{arith}
use Rattle.trace.specs.TraceFile.{record_at}
use Rattle.trace.proofs.Places.{num_level}
use Rattle.trace.proofs.item.Goals as goal

pub returns : goal.returns
returns c =
    let a = c.args in
    let p = c.record_at in
    (c.number_at.ensures.0 ∙ num_level 2 p.result (record_at a.trace.now a.t) a.trace.now (omega (arith, p.ensures.0)), c.number_at.ensures.1)
