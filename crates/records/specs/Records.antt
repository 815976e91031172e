-- The pieces of a trace file, as document 01 lays them out. Assumes nothing.
use Rattle.std.specs.Prelude.{ℕ, ◌+◌, cond, List, ◌∷◌, ◌++◌, length, ltb}
use Rattle.std.proofs.Math.Seq.{paste}
use Rattle.fields.specs.Bytes.{bytes_of}

-- the mark `CTR`, version 1, w in one byte, n in two, F in four
abbrev pub head_of : (slots requests fill : ℕ) → List ℕ
head_of w n f = 67 ∷ 84 ∷ 82 ∷ bytes_of 2 1 ++ w ∷ bytes_of 2 n ++ bytes_of 4 f

-- the item in two bytes, the kind in one, a zero byte, the cost in four
abbrev pub record_of : (item kind cost : ℕ) → List ℕ
record_of i k c = bytes_of 2 i ++ k ∷ 0 ∷ bytes_of 4 c

-- the list with these from place `at` on, where it has room for all of them; else as it was
abbrev pub laid : List ℕ → (at : ℕ) → List ℕ → List ℕ
laid l at bytes = cond (ltb (length l) (at + length bytes)) l (paste l at bytes (length bytes))
