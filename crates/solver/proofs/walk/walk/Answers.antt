use native.Mathlib.Omega.{arith}
use Rattle.steps.proofs.Hops.{trail_start, trail_step, trail_end}
use Rattle.solver.proofs.walk.walk.Goals as goal

pub loop-v-init : goal.loop-v-init
loop-v-init c = (c.requires, trail_start c.requires)

pub loop-v-preserved : goal.loop-v-preserved
loop-v-preserved c =
    let i = c.loop-v.invariant in
    (i.0, rw (c.hopped.ensures, c.from-u.ensures) (trail_step i.0 i.1 (omega arith)))

pub returns : goal.returns
returns c = let i = c.loop-v.invariant in trail_end i.0 i.1 (omega arith)
