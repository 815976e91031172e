-- The table of charges, row by row: what a request pays and counts for. Assumes nothing.
use mathlib.Core.Path.{◌≡◌, refl, sym}
use Prim.Native.Nat.{ℕ, ◌+◌}
use mathlib.Core.Bool.{Bool, true, false}
use Rattle.model.specs.Model.{Rules, Request}
use Rattle.model.proofs.Rows.{read_held, read_fill, read_miss, write_held, write_not}
use Rattle.replay.specs.Replay.{Totals}
use Rattle.replay.specs.Linked.{paid}
use Rattle.replay.specs.Rows.{row_of, paid_in}
use Rattle.replay.proofs.Counting.{same_totals}

-- the four numbers
abbrev pub counted : (total misses fills strikes : ℕ) → Totals
counted total misses fills strikes = record { total = total; misses = misses; fills = fills; strikes = strikes }

module _ (ru : Rules) (r : Request) (before after : Bool) where
  -- a read of an item held pays nothing
  pub pays_read_held : r.write ≡ false → before ≡ true → counted 0 0 0 0 ≡ paid ru r before after
  pays_read_held w b = rw b (same_totals _ _ (sym (read_held ru r w after)) (rw w) (rw w) (rw w))

  -- a read of an item not held that is held after it pays its cost and the fill price, and is a read miss and a fill
  pub pays_read_fill : r.write ≡ false → before ≡ false → after ≡ true → counted (r.cost + ru.fill) 1 1 0 ≡ paid ru r before after
  pays_read_fill w b a = rw (b, a) (same_totals _ _ (sym (read_fill ru r w)) (rw w) (rw w) (rw w))

  -- a read of an item not held, nor after it, pays its cost, and is a read miss
  pub pays_read_miss : r.write ≡ false → before ≡ false → after ≡ false → counted r.cost 1 0 0 ≡ paid ru r before after
  pays_read_miss w b a = rw (b, a) (same_totals _ _ (sym (read_miss ru r w)) (rw w) (rw w) (rw w))

  -- a write of an item held pays its cost, even if the item is dropped then, and is a write hit
  pub pays_write_held : r.write ≡ true → before ≡ true → counted r.cost 0 0 1 ≡ paid ru r before after
  pays_write_held w b = rw b (same_totals _ _ (sym (write_held ru r w after)) (rw w) (rw w) (rw w))

  -- a write of an item not held pays nothing
  pub pays_write_not : r.write ≡ true → before ≡ false → counted 0 0 0 0 ≡ paid ru r before after
  pays_write_not w b = rw b (same_totals _ _ (sym (write_not ru r w after)) (rw w) (rw w) (rw w))

row_paid_by : (ru : Rules) (r : Request) (write before after : Bool) → r.write ≡ write → paid_in (row_of write before after) r.cost ru.fill ≡ paid ru r before after
row_paid_by ru r true true after w = pays_write_held ru r true after w refl
row_paid_by ru r true false after w = pays_write_not ru r false after w refl
row_paid_by ru r false true after w = pays_read_held ru r true after w refl
row_paid_by ru r false false true w = pays_read_fill ru r false true w refl refl
row_paid_by ru r false false false w = pays_read_miss ru r false false w refl refl

-- the row of a request charges and counts what the model does
pub row_paid : (ru : Rules) (r : Request) (before after : Bool) → paid_in (row_of r.write before after) r.cost ru.fill ≡ paid ru r before after
row_paid ru r before after = row_paid_by ru r r.write before after refl
