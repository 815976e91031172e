-- Numbers in decimal digits, without leading zeros: how they are written, and what stands at the start of a list of bytes.
use Rattle.std.specs.Prelude.{ℕ, zero, suc, ◌+◌, ◌*◌, ◌-◌, ◌/◌, ◌%◌, Bool, false, cond, ◌&&◌, List, [], ◌∷◌, eqb, ltb}

-- the digits of x, most significant first, in front of `rest`; in at most k + 1 digits
abbrev pub spell_by : (k x : ℕ) → (rest : List ℕ) → List ℕ
spell_by zero x rest = (48 + x) ∷ rest
spell_by (suc k) x rest = cond (ltb x 10) ((48 + x) ∷ rest) (spell_by k (x / 10) ((48 + x % 10) ∷ rest))

-- the digits of x: x has no more than x + 1
unfoldable pub decimal : ℕ → List ℕ
decimal x = spell_by x x []

-- `0` to `9`
abbrev pub digit : ℕ → Bool
digit b = ltb 47 b && ltb b 58

-- a digit stands first
abbrev pub starts_digit : List ℕ → Bool
starts_digit [] = false
starts_digit (b ∷ l) = digit b

-- what stands at the start: a number, and what follows it; or none
pub data Found : Type 0 where
  found : (value : ℕ) → (rest : List ℕ) → Found
  none : Found

-- the number that x and the digits that follow it make; none if it is above `top`
abbrev pub digits_from : (top x : ℕ) → List ℕ → Found
digits_from top x [] = found x []
digits_from top x (b ∷ l) =
    cond (digit b)
    (cond (ltb top (10 * x + (b - 48))) none (digits_from top (10 * x + (b - 48)) l))
    (found x (b ∷ l))

-- the number at the start, of all the digits that stand there: one digit at least, no leading zero, at most `top`
unfoldable pub numeral : (top : ℕ) → List ℕ → Found
numeral top [] = none
numeral top (b ∷ l) =
    cond (eqb b 48)
    (cond (starts_digit l) none (found 0 l))
    (cond (digit b) (digits_from top 0 (b ∷ l)) none)

-- the digit that stands first, or 10
abbrev pub digit_in : List ℕ → ℕ
digit_in [] = 10
digit_in (b ∷ l) = cond (digit b) (b - 48) 10
