-- A fraction n / d that is q * 2 ^ x / 2 ^ l, as a float's bits have it: which x there is between 1 and 2 ^ 53, and the fraction with the
-- power of two in lowest terms.
use mathlib.Core.Path.{◌≡◌, sym, ap, ◌∙◌}
use Prim.Native.Nat.{ℕ, ◌+◌, ◌-◌, ◌*◌, ◌^◌, ◌≤◌, ◌<◌}
use native.Mathlib.Nat.{le_trans, le_of_eq, lt_of_lt_of_le, lt_of_le_of_lt, lt_of_not-le, not-le_of_lt, mul_comm, mul_assoc, mul_right_comm}
use native.Mathlib.Nat.{mul-le-mul_right, mul-lt-mul_of_pos_right, le_of_mul-le-mul_right, lt_of_mul-lt-mul_right, eq_of_mul-eq-mul_right, add-sub_of_le}
use native.Mathlib.Omega.{arith}
use lib.Pow.{pow-add, pow_pos, pow_mono, shl_lt}

-- the larger power has the larger exponent
exponents : (i j : ℕ) → 2 ^ i < 2 ^ j → i < j
exponents i j h = lt_of_not-le (λ (g : j ≤ i). not-le_of_lt h (pow_mono g))

module _ (n d q x l : ℕ) (D : 0 < d) (v : n * 2 ^ l ≡ q * 2 ^ x * d) where
  at_least : d ≤ n → 2 ^ l ≤ q * 2 ^ x
  at_least h = le_of_mul-le-mul_right (le_trans (le_of_eq (mul_comm (2 ^ l) d)) (le_trans (mul-le-mul_right (2 ^ l) h) (le_of_eq v))) D

  at_most : n < 2 ^ 53 * d → q * 2 ^ x < 2 ^ (53 + l)
  at_most h =
      lt_of_mul-lt-mul_right d
      (lt_of_le_of_lt (le_of_eq (sym v))
      (lt_of_lt_of_le (mul-lt-mul_of_pos_right h (pow_pos l))
      (le_of_eq (mul_right_comm (2 ^ 53) d (2 ^ l) ∙ ap (λ (z : ℕ). z * d) (sym (pow-add 2 53 l))))))

  pub not_lower : q < 2 ^ 53 → d ≤ n → l < 53 + x
  not_lower k h = exponents l (53 + x) (lt_of_le_of_lt (at_least h) (shl_lt 53 x k))

  pub not_higher : 2 ^ 52 ≤ q → n < 2 ^ 53 * d → x ≤ l
  not_higher k h =
      let e : 52 + x < 53 + l = exponents (52 + x) (53 + l) (lt_of_le_of_lt (le_trans (le_of_eq (pow-add 2 52 x)) (mul-le-mul_right (2 ^ x) k)) (at_most h)) in
      omega arith

  pub lowest_terms : x ≤ l → n * 2 ^ (l - x) ≡ q * d
  lowest_terms h =
      eq_of_mul-eq-mul_right (2 ^ x) (pow_pos x) (n * 2 ^ (l - x)) (q * d)
      (mul_assoc n (2 ^ (l - x)) (2 ^ x)
      ∙ ap (λ (z : ℕ). n * z) (mul_comm (2 ^ (l - x)) (2 ^ x) ∙ sym (pow-add 2 x (l - x)) ∙ ap (λ (z : ℕ). 2 ^ z) (add-sub_of_le h))
      ∙ v
      ∙ mul_right_comm q (2 ^ x) d)
