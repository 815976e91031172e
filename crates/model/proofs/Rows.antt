-- The rows of the table of charges, one law each. Assumes nothing.
use mathlib.Core.Path.{◌≡◌}
use Prim.Native.Nat.{◌+◌, ◌≤◌}
use native.Mathlib.Omega.{arith}
use mathlib.Core.Bool.{Bool, true, false}
use Rattle.model.specs.Model.{Rules, Request, charge}
use Rattle.model.proofs.Sums.{split}

module _ (ru : Rules) (r : Request) where
  -- a read of an item held pays nothing
  pub read_held : r.write ≡ false → (after : Bool) → charge ru r true after ≡ 0
  read_held e after = rw e

  -- a read of an item not held that is held after it pays its cost and the fill price
  pub read_fill : r.write ≡ false → charge ru r false true ≡ r.cost + ru.fill
  read_fill e = rw e (omega arith)

  -- a read of an item not held, nor after it, pays its cost
  pub read_miss : r.write ≡ false → charge ru r false false ≡ r.cost
  read_miss e = rw e (omega arith)

  -- a write of an item held pays its cost, even if the item is dropped then
  pub write_held : r.write ≡ true → (after : Bool) → charge ru r true after ≡ r.cost
  write_held e after = rw e (omega arith)

  -- a write of an item not held pays nothing
  pub write_not : r.write ≡ true → (after : Bool) → charge ru r false after ≡ 0
  write_not e after = rw e

  -- no charge is above a cost and a fill
  pub charge_top : (before after : Bool) → charge ru r before after ≤ r.cost + ru.fill
  charge_top true after =
      split r.write (λ e. rw (write_held e after) (omega arith)) (λ e. rw (read_held e after) (omega arith))
  charge_top false true =
      split r.write (λ e. rw (write_not e true) (omega arith)) (λ e. rw (read_fill e) (omega arith))
  charge_top false false =
      split r.write (λ e. rw (write_not e false) (omega arith)) (λ e. rw (read_miss e) (omega arith))
