-- Long division: sixteen decimals of a fraction, one after the other.
use mathlib.Core.Path.{◌≡◌, sym, ap, ◌∙◌}
use Prim.Native.Nat.{ℕ, ◌+◌, ◌*◌, ◌/◌, ◌%◌, ◌^◌, ◌≤◌, ◌<◌}
use native.Mathlib.Nat.{lt_of_lt_of_le, mod-lt, mod-eq_of_lt, mul-add, mul_assoc, one-mul, pow-succ', pow-le-pow_right, mul-lt-mul_of_pos_left}
use native.Mathlib.Nat.{one-le-pow, div-add-mod', div-eq_of_lt, div-lt_iff_lt-mul, mul-add-div_right, mul-add-mod_self_left, mul-add-mod_self_right}
use native.Mathlib.Numerals.{add-one}
use native.Mathlib.Omega.{arith}
use lib.Dec.{lit<}
use Rattle.floats.specs.Cut.{fraction}

module _ (a b : ℕ) (B : 0 < b) where
  -- the whole part and what is left, k times as large
  grown : (k : ℕ) → k * a ≡ k * (a / b) * b + k * (a % b)
  grown k =
      ap (λ (x : ℕ). k * x) (sym (div-add-mod' a b))
      ∙ mul-add k (a / b * b) (a % b)
      ∙ ap (λ (x : ℕ). x + k * (a % b)) (sym (mul_assoc k (a / b) b))

  quotient_grown : (k : ℕ) → k * a / b ≡ k * (a / b) + k * (a % b) / b
  quotient_grown k = ap (λ (x : ℕ). x / b) (grown k) ∙ mul-add-div_right B (k * (a / b)) (k * (a % b))

  rest_grown : (k : ℕ) → k * a % b ≡ k * (a % b) % b
  rest_grown k = ap (λ (x : ℕ). x % b) (grown k) ∙ mul-add-mod_self_right (k * (a / b)) b (k * (a % b))

-- less than one, k times as large
below : (r b k : ℕ) → r < b → 0 < k → k * r / b < k
below r b k h K = let B : 0 < b = omega arith in (div-lt_iff_lt-mul B).1 (mul-lt-mul_of_pos_left h K)

-- the decimals of a fraction are those of its rest
decimals : (a b k : ℕ) → 0 < b → 0 < k → k * (a % b) / b ≡ k * a / b % k
decimals a b k B K =
    sym (ap (λ (x : ℕ). x % k) (quotient_grown a b B k)
    ∙ mul-add-mod_self_left k (a / b) (k * (a % b) / b)
    ∙ mod-eq_of_lt (below (a % b) b k (mod-lt a B) K))

-- ten times as much, as the loop counts
tenfold : (n r : ℕ) → 10 ^ (n + 1) * r ≡ 10 * (10 ^ n * r)
tenfold n r = ap (λ (x : ℕ). 10 ^ x * r) (add-one n) ∙ ap (λ (x : ℕ). x * r) (pow-succ' 10 n) ∙ mul_assoc 10 (10 ^ n) r

-- the state of the loop: n decimals of r / b are found
pub record Divided (r b n parts rest : ℕ) : Type 0 where
  pub found : parts ≡ 10 ^ n * r / b
  pub left : rest ≡ 10 ^ n * r % b
  pub under : r < b
  pub room : n ≤ 16

pub division_begins : (a b : ℕ) → 0 < b → Divided (a % b) b 0 0 (a % b)
division_begins a b B =
    let h : a % b < b = mod-lt a B in
    record {
      found = sym (ap (λ (x : ℕ). x / b) (one-mul (a % b)) ∙ div-eq_of_lt h);
      left = sym (ap (λ (x : ℕ). x % b) (one-mul (a % b)) ∙ mod-eq_of_lt h);
      under = h;
      room = omega arith;
    }

module _ {r b n parts rest : ℕ} (d : Divided r b n parts rest) where
  positive : 0 < b
  positive = omega arith

  next_found : 10 * parts + 10 * rest / b ≡ 10 ^ (n + 1) * r / b
  next_found = rw (d.found, d.left, tenfold n r) (sym (quotient_grown (10 ^ n * r) b positive 10))

  next_left : 10 * rest % b ≡ 10 ^ (n + 1) * r % b
  next_left = rw (d.left, tenfold n r) (sym (rest_grown (10 ^ n * r) b positive 10))

  pub rest_small : rest < b
  rest_small = rw d.left (mod-lt (10 ^ n * r) positive)

  pub parts_small : n < 16 → 10 * parts + 10 * rest / b < 10 ^ 16
  parts_small h =
      let k : n + 1 ≤ 16 = omega arith in
      rw next_found (lt_of_lt_of_le (below r b (10 ^ (n + 1)) d.under (one-le-pow (n + 1) 10 (lit< tt))) (pow-le-pow_right (lit< tt) k))

  pub division_on : n < 16 → Divided r b (n + 1) (10 * parts + 10 * rest / b) (10 * rest % b)
  division_on h = record { found = next_found; left = next_left; under = d.under; room = omega arith }

pub division_ends : (a b n parts rest : ℕ) → Divided (a % b) b n parts rest → 16 ≤ n → record { whole = a / b; parts = parts } ≡ fraction a b
division_ends a b n parts rest d h =
    let e : n ≡ 16 = omega arith in
    let p : parts ≡ 10 ^ 16 * a / b % 10 ^ 16 = d.found ∙ ap (λ (x : ℕ). 10 ^ x * (a % b) / b) e ∙ decimals a b (10 ^ 16) (positive d) (lit< tt) in
    ap (λ (x : ℕ). record { whole = a / b; parts = x }) p
