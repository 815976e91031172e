-- The bits of a float from 1 up to 2 ^ 53: its exponent, and its value by its digits.
use mathlib.Core.Path.{◌≡◌, refl, sym, ap, ◌∙◌, subst}
use Prim.Native.Nat.{ℕ, zero, suc, ◌+◌, ◌-◌, ◌*◌, ◌/◌, ◌%◌, ◌^◌, ◌≤◌, ◌<◌}
use native.Mathlib.Nat.{mod-lt, mod-eq_of_lt, add_comm}
use native.Mathlib.Omega.{arith}
use mathlib.Core.Bool.{Bool, true, false, not, cond, ◌||◌}
use borrow.Author.Tests.{leb-false}
use lib.Dec.{T, leb, eqb, ltb→lt}
use lib.Pow.{pow_pos}
use lib.Ieee.{Float, nan, inf, fin, binary64, up, down, odd, of_fields, of_bits, to_bits, fits, is_nan, le, lt, eq}
use lib.Ieee.Bits.{of_bits-to_bits}
use lib.Ieee.Exact.{HasValue, odd_sign}
use lib.Ieee.Positive.{num, den, positive, den_pos, between, le→cross}
use Rattle.floats.specs.Cut.{one, large}
use Rattle.floats.proofs.Scale.{not_lower, not_higher, lowest_terms}

-- ---- what the tests say

yes : {b : Bool} → b ≡ true → T b
yes e = subst T (sym e) tt

less : (x y : Float) → T (lt x y) → T (le x y)
unfolding le
less x y h = go (lt x y) (eq x y) h
  where
    go : (a b : Bool) → T a → T (a || b)
    go true b t = tt
    go false b t = absurd t

under : (x : Float) → T (positive x) → T (lt x large) → num x < 2 ^ 53 * den x
unfolding lt
under nan p h = absurd p
under (inf s) p h = absurd p
under (fin true m e) p h = absurd p
under (fin false m e) p h = let k = ltb→lt (m * up e * 1) (1 * 2 ^ 53 * down e) h in omega (arith, k)

-- x is above zero, and its value is from 1 up to 2 ^ 53
pub record Within (x : Float) : Type 0 where
  pub above : T (positive x)
  pub least : den x ≤ num x
  pub most : num x < 2 ^ 53 * den x

pub within : (x : Float) → le one x ≡ true → lt x large ≡ true → Within x
within x a b =
    let p : T (positive x) = between one x large tt tt (yes a) (less x large (yes b)) in
    let l = le→cross one x tt p (yes a) in
    record { above = p; least = omega (arith, l); most = under x p (yes b) }

-- ---- a float by its fields

cross : (x : Float) (s : Bool) (a c : ℕ) → HasValue x s a c → num x * c ≡ a * den x
cross nan s a c h = absurd h
cross (inf t) s a c h = absurd h
cross (fin t m e) s a c h = h.1

sign : (x : Float) (s : Bool) (a c : ℕ) → T (positive x) → HasValue x s a c → s ≡ false
sign nan s a c p h = absurd p
sign (inf t) s a c p h = absurd p
sign (fin true m e) s a c p h = absurd p
sign (fin false m e) s a c p h = sym h.0

-- the exponent's field is x + 1, the sign is clear, and the value is 2 ^ x times the digits under a leading one, over 2 ^ 1074
abbrev Read : Bool → ℕ → ℕ → Float → Type 0
Read s e t v = (x : ℕ) × (e ≡ suc x) × (s ≡ false) × (num v * 2 ^ 1074 ≡ (2 ^ 52 + t) * 2 ^ x * den v)

no_number : (b s : Bool) → T (positive (cond b (inf s) nan)) → ⊥
no_number true s p = p
no_number false s p = p

read : (s : Bool) (e t : ℕ) (v : Float) → v ≡ of_fields binary64 s e t → Within v → t < 2 ^ 52 → Read s e t v
unfolding of_fields
read s zero t v is w h =
    let u : HasValue v s (t * 2 ^ 0) (2 ^ 1074) = subst (λ (k : Float). HasValue k s (t * 2 ^ 0) (2 ^ 1074)) (sym is) (odd_sign 53 s t 0 1074) in
    let z : 1074 < 53 + 0 = not_lower (num v) (den v) t 0 1074 (den_pos v) (cross v s (t * 2 ^ 0) (2 ^ 1074) u) (omega arith) w.least in
    absurd (omega arith)
read s (suc x) t v is w h = go (eqb (suc x) 2047) is
  where
    go : (a : Bool) → v ≡ cond a (cond (eqb t 0) (inf s) nan) (odd 53 s (2 ^ 52 + t) x 1074) → Read s (suc x) t v
    go true i = absurd (no_number (eqb t 0) s (subst (λ (k : Float). T (positive k)) i w.above))
    go false i =
        let q = (2 ^ 52 + t) * 2 ^ x in
        let u : HasValue v s q (2 ^ 1074) = subst (λ (k : Float). HasValue k s q (2 ^ 1074)) (sym i) (odd_sign 53 s (2 ^ 52 + t) x 1074) in
        (x, refl, sign v s q (2 ^ 1074) w.above u, cross v s q (2 ^ 1074) u)

-- ---- a float by its bits

as_fields : (b : ℕ) → of_bits binary64 b ≡ of_fields binary64 (leb (2 ^ 63) b) (b % 2 ^ 63 / 2 ^ 52) (b % 2 ^ 52)
unfolding of_bits
as_fields b = refl

-- the exponent is within its bounds, and the value is 53 binary digits over a power of two
pub record Bits (v : Float) (b : ℕ) : Type 0 where
  pub lowest : 1023 ≤ b / 2 ^ 52
  pub highest : b / 2 ^ 52 ≤ 1075
  pub same : num v * 2 ^ (1075 - b / 2 ^ 52) ≡ (b % 2 ^ 52 + 2 ^ 52) * den v

pub bits : (v : Float) → T (fits binary64 v) → Within v → Bits v (to_bits binary64 v)
bits v f w =
    let b = to_bits binary64 v in
    let t = b % 2 ^ 52 in
    let q = 2 ^ 52 + t in
    let h : t < 2 ^ 52 = mod-lt b (pow_pos 52) in
    let i = sym (of_bits-to_bits binary64 v f) ∙ as_fields b in
    let r = read (leb (2 ^ 63) b) (b % 2 ^ 63 / 2 ^ 52) t v i w h in
    let x = r.0 in
    let e : b / 2 ^ 52 ≡ suc x = ap (λ (k : ℕ). k / 2 ^ 52) (sym (mod-eq_of_lt (leb-false (2 ^ 63) b r.2))) ∙ r.1 in
    let lo : 1074 < 53 + x = not_lower (num v) (den v) q x 1074 (den_pos v) r.3 (omega arith) w.least in
    let hi : x ≤ 1074 = not_higher (num v) (den v) q x 1074 (den_pos v) r.3 (omega arith) w.most in
    let k : 1075 - b / 2 ^ 52 ≡ 1074 - x = omega (arith, e) in
    let s = lowest_terms (num v) (den v) q x 1074 (den_pos v) r.3 hi in
    record {
      lowest = omega (arith, e, lo);
      highest = omega (arith, e, hi);
      same = ap (λ (z : ℕ). num v * 2 ^ z) k ∙ s ∙ ap (λ (z : ℕ). z * den v) (add_comm (2 ^ 52) t);
    }

-- a float within the bounds is a number
pub is_number : (v : Float) → Within v → T (not (is_nan v))
unfolding is_nan
is_number nan w = absurd w.above
is_number (inf s) w = tt
is_number (fin s m e) w = tt
