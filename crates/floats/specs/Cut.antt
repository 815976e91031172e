-- The decimal digits of a float, without rounding.
use Rattle.std.specs.Prelude.{ℕ, ◌*◌, ◌/◌, ◌%◌, ◌^◌, false, cond, ◌&&◌, pos, Float}
use Rattle.std.specs.Float.{fin}
use Rattle.std.specs.Float.Ieee.{le, lt}
use Rattle.std.specs.Float.Ieee.Positive.{num, den}
use Rattle.floats.specs.declared.Decimals.{Decimals}

-- a / b, cut off: the whole part, and the first sixteen decimals as one number
abbrev pub fraction : (a b : ℕ) → Decimals
fraction a b = record { whole = a / b; parts = 10 ^ 16 * a / b % 10 ^ 16 }

-- 1 and 2^53
abbrev pub one : Float
one = fin false 1 (pos 0)

abbrev pub large : Float
large = fin false 1 (pos 53)

-- the digits of a float from 1 up to 2^53; of any other, 0 and 0
abbrev pub cut_of : Float → Decimals
cut_of x = cond (le one x && lt x large) (fraction (num x) (den x)) (record { whole = 0; parts = 0 })
