-- The definition's answer, for each way that the tests can go.
use mathlib.Core.Path.{◌≡◌, sym, ap, ap₂, ◌∙◌}
use Prim.Native.Nat.{ℕ, ◌+◌, ◌-◌, ◌*◌, ◌/◌, ◌%◌, ◌^◌, ◌<◌}
use native.Mathlib.Nat.{mul_assoc, mod-lt}
use mathlib.Core.Bool.{Bool, true, false, cond, ◌&&◌}
use lib.Dec.{T, lit<}
use lib.Pow.{pow_pos}
use lib.Ieee.{Float, binary64, to_bits, fits, le, lt}
use lib.Ieee.Nearest.{div_same}
use lib.Ieee.Positive.{num, den, den_pos}
use Rattle.floats.specs.Cut.{fraction, one, large, cut_of}
use Rattle.floats.proofs.Patterns.{within, bits}

-- equal fractions have the same digits
same_digits : (a b c d : ℕ) → 0 < b → 0 < d → a * d ≡ c * b → fraction a b ≡ fraction c d
same_digits a b c d B D e =
    let k = 10 ^ 16 in
    let g : k * a * d ≡ k * c * b = mul_assoc k a d ∙ ap (λ (x : ℕ). k * x) e ∙ sym (mul_assoc k c b) in
    ap₂ (λ (x y : ℕ). record { whole = x; parts = y % k }) (div_same a b c d B D e) (div_same (k * a) b (k * c) d B D g)

module _ (x : Float) where
  pub too_small : le one x ≡ false → record { whole = 0; parts = 0 } ≡ cut_of x
  too_small a = rw a

  pub too_large : le one x ≡ true → lt x large ≡ false → record { whole = 0; parts = 0 } ≡ cut_of x
  too_large a b = rw (a, b)

  pub by_bits : T (fits binary64 x) → le one x ≡ true → lt x large ≡ true
      → fraction (to_bits binary64 x % 2 ^ 52 + 2 ^ 52) (2 ^ (1075 - to_bits binary64 x / 2 ^ 52)) ≡ cut_of x
  by_bits f a b =
      let k = 1075 - to_bits binary64 x / 2 ^ 52 in
      rw (a, b)
      (sym (same_digits (num x) (den x) (to_bits binary64 x % 2 ^ 52 + 2 ^ 52) (2 ^ k) (den_pos x) (pow_pos k) (bits x f (within x a b)).same))

  -- sixteen digits hold the decimals
  pub parts_few : (cut_of x).parts < 10 ^ 16
  parts_few = go (le one x && lt x large)
    where
      go : (b : Bool) → (cond b (fraction (num x) (den x)) (record { whole = 0; parts = 0 })).parts < 10 ^ 16
      go true = mod-lt (10 ^ 16 * num x / den x) (lit< tt)
      go false = lit< tt
