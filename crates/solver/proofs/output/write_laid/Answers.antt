use mathlib.Core.Path.{ap, ◌∙◌}
use Prim.Native.Nat.{ℕ}
use native.Mathlib.Omega.{arith}
use lib.ListN.{length-replicate}
use Rattle.trace.specs.declared.Header.{Header}
use Rattle.steps.proofs.Laying.{laid_few}
use Rattle.solver.proofs.Planned.{laid_proving, proving_laid}
use Rattle.solver.proofs.output.write_laid.Goals as goal

pub shared_ref_as_front-write : goal.shared_ref_as_front-write
shared_ref_as_front-write c = omega (arith, laid_few c.requires.laid.0)

pub returns : goal.returns
returns c =
    let l = c.requires.laid in
    let slots = ap (λ (h : Header). h.slots) c.requires.header in
    let p = laid_proving slots l.0 l.1 c.rents.ensures (c.rents.ensures.long ∙ length-replicate {A = ℕ} 1024 1) in
    proving_laid c.requires.ready.1 p c.write.ensures
