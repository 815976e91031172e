use native.Mathlib.Omega.{arith}
use Rattle.floats.proofs.Division.{division_on, division_ends, parts_small}
use Rattle.floats.proofs.digits.of_fraction.Goals as goal

pub overflow_mul-parts : goal.overflow_mul-parts
overflow_mul-parts c = omega (arith, parts_small c.loop.invariant c.loop-test.true)

pub overflow_add-parts : goal.overflow_add-parts
overflow_add-parts c = omega (arith, parts_small c.loop.invariant c.loop-test.true)

pub loop-preserved : goal.loop-preserved
loop-preserved c = division_on c.loop.invariant c.loop-test.true

pub returns : goal.returns
returns c = division_ends _ _ _ _ _ c.loop.invariant c.loop-test.false
