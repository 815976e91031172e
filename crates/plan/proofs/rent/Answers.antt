use mathlib.Core.Path.{sym}
use Prim.Native.Nat.{◌*◌}
use native.Mathlib.Omega.{arith}
use Rattle.fields.proofs.Numbers.{num_past}
use Rattle.plan.proofs.rent.Goals as goal

pub returns-then-part-t : goal.returns-then-part-t
returns-then-part-t c = let a = c.args in
    (sym (num_past 4 (4 * a.t) a.part.now (omega arith)), omega arith)
