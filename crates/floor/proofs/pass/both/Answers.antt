use native.Mathlib.Omega.{arith}
use Rattle.floor.proofs.Passed.{rents_all_lem, taken_top}
use Rattle.floor.proofs.pass.both.Goals as goal

pub overflow_mul-result : goal.overflow_mul-result
overflow_mul-result c =
    let k = taken_top c.requires in
    rw (c.slots.ensures.0, c.paid-all.ensures) (omega (arith, k))

pub returns : goal.returns
returns c =
    rw (c.slots.ensures.0, c.paid-all.ensures, c.leasts.ensures, rents_all_lem c.requires)
