-- The rows of document 01's table of charges: which row a request comes to, and what each charges and counts for. Assumes nothing.
use Rattle.std.specs.Prelude.{ℕ, ◌+◌, Bool, true, false}
use Rattle.replay.specs.Replay.{Totals}
use Rattle.replay.specs.declared.Row.{Row}
use Rattle.replay.specs.declared.Row.TheVariants.{ReadHit, ReadFill, ReadPast, WriteHit, WritePast}

-- the row of a request, by whether it is a write and whether its item is held before it and after it
abbrev pub row_of : (write before after : Bool) → Row
row_of true true after = WriteHit
row_of true false after = WritePast
row_of false true after = ReadHit
row_of false false true = ReadFill
row_of false false false = ReadPast

-- what a row charges and counts for
abbrev pub paid_in : Row → (cost fill : ℕ) → Totals
paid_in ReadHit cost fill = record { total = 0; misses = 0; fills = 0; strikes = 0 }
paid_in ReadFill cost fill = record { total = cost + fill; misses = 1; fills = 1; strikes = 0 }
paid_in ReadPast cost fill = record { total = cost; misses = 1; fills = 0; strikes = 0 }
paid_in WriteHit cost fill = record { total = cost; misses = 0; fills = 0; strikes = 1 }
paid_in WritePast cost fill = record { total = 0; misses = 0; fills = 0; strikes = 0 }
