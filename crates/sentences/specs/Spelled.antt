-- What stands for a text with signs, its numbers in turn in their places.
use Rattle.std.specs.Prelude.{ℕ, ◌+◌, ◌-◌, min, cond, List, [], ◌∷◌, ◌++◌, length, get_or, replicate, eqb, ltb}
use Rattle.decimal.specs.Decimal.{decimal}

-- how far signs are read: how many numbers are taken; how many signs of a run stand just before; how many columns numbers took more than
-- their runs, at most 256; how many words come before the one that is chosen
pub record State : Type 0 where
  pub taken : ℕ
  pub run : ℕ
  pub over : ℕ
  pub hidden : ℕ

-- what stands for one byte of a text, and how far signs are read then
pub record Sign : Type 0 where
  pub bytes : List ℕ
  pub after : State

-- nothing stands for it
abbrev pub quiet : State → Sign
quiet s = record { bytes = []; after = s }

-- `[`: word n of those that follow is chosen, counted from 0
abbrev pub choice_of : State → (n : ℕ) → Sign
choice_of s n = quiet (record { taken = s.taken + 1; run = s.run; over = s.over; hidden = n })

-- after the chosen word the next is more words away than a text has
abbrev pub next_word : ℕ → ℕ
next_word hidden = cond (eqb hidden 0) 18446744073709551615 (hidden - 1)

-- `|`: a word is over
abbrev pub bar_of : State → Sign
bar_of s = quiet (record { taken = s.taken; run = s.run; over = s.over; hidden = next_word s.hidden })

-- `]`: the words are over
abbrev pub end_of : State → Sign
end_of s = quiet (record { taken = s.taken; run = s.run; over = s.over; hidden = 0 })

-- `@` or `$` before another: a run of it
abbrev pub run_of : State → Sign
run_of s = quiet (record { taken = s.taken; run = s.run + 1; over = s.over; hidden = s.hidden })

-- the last `@` of a run: a number at the right end of its columns, less the columns that numbers before it took too many
abbrev pub column_of : State → (n : ℕ) → Sign
column_of s n =
    record {
      bytes = replicate (s.run + 1 - (length (decimal n) + s.over)) 32 ++ decimal n;
      after = record { taken = s.taken + 1; run = 0; over = min (length (decimal n) + s.over - (s.run + 1)) 256; hidden = 0 };
    }

-- the last `$` of a run: a number with zeros in front
abbrev pub zeros_of : State → (n : ℕ) → Sign
zeros_of s n =
    record {
      bytes = replicate (s.run + 1 - length (decimal n)) 48 ++ decimal n;
      after = record { taken = s.taken + 1; run = 0; over = s.over; hidden = 0 };
    }

-- byte b that is not hidden, before byte `next`; any but `@` and `$` stands for itself
unfoldable pub shown_of : State → (b next n : ℕ) → Sign
shown_of s b next n =
    cond (eqb b 64) (cond (eqb next 64) (run_of s) (column_of s n))
    (cond (eqb b 36) (cond (eqb next 36) (run_of s) (zeros_of s n))
    (record { bytes = b ∷ []; after = s }))

-- byte b of a text, before byte `next`, with the next number
unfoldable pub sign_of : State → (b next n : ℕ) → Sign
sign_of s b next n =
    cond (eqb b 91) (choice_of s n)
    (cond (eqb b 124) (bar_of s)
    (cond (eqb b 93) (end_of s)
    (cond (ltb 0 s.hidden) (quiet s)
    (shown_of s b next n))))

-- what stands for a text from here on; where there are too few numbers they are 0
abbrev pub spelled_from : State → (numbers text : List ℕ) → List ℕ
spelled_from s numbers [] = []
spelled_from s numbers (b ∷ text) =
    (sign_of s b (get_or text 0 0) (get_or numbers s.taken 0)).bytes
    ++ spelled_from (sign_of s b (get_or text 0 0) (get_or numbers s.taken 0)).after numbers text

-- at a text's start
abbrev pub start : State
start = record { taken = 0; run = 0; over = 0; hidden = 0 }

-- what stands for a whole text
unfoldable pub spelled : (text numbers : List ℕ) → List ℕ
spelled text numbers = spelled_from start numbers text
