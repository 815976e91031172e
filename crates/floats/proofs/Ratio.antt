-- The quotient of two costs has digits: it is from 1 up to 2 ^ 53.
use mathlib.Core.Path.{◌≡◌, refl, sym, ◌∙◌}
use Prim.Native.Nat.{ℕ, ◌*◌, ◌^◌, ◌≤◌, ◌<◌}
use native.Mathlib.Nat.{mul_comm, mul_assoc, mul_left_comm, mul-one, one-mul, mul-pos, le-div_iff_mul-le}
use native.Mathlib.Omega.{arith}
use mathlib.Core.Bool.{true, false}
use borrow.Author.Tests.{ne_eqb}
use lib.Dec.{T, ltb→lt, lt→ltb, lit<}
use lib.IntN.{pos}
use lib.Ieee.{Float, nan, inf, fin, binary64, up, down, round, of_int, div, le, lt}
use lib.Ieee.Bits.{is_true}
use lib.Ieee.Fits.{down_pos}
use lib.Ieee.Exact.{HasValue}
use lib.Ieee.Back.{round_whole}
use lib.Ieee.Order.{round_mono}
use lib.Ieee.Scale.{round_same}
use lib.Ieee.Positive.{num, den, positive, den_pos, value→cross, positive_of_value, between, le→cross}
use Rattle.floats.specs.Cut.{fraction, one, large, cut_of}
use Rattle.floats.proofs.Patterns.{within}

-- a quotient is the fraction of the two values, rounded
divided : (x y : Float) → T (positive x) → T (positive y) → div binary64 x y ≡ round binary64 false (num x * den y) (num y * den x)
unfolding div
divided nan y p q = absurd p
divided (inf s) y p q = absurd p
divided (fin true m e) y p q = absurd p
divided (fin false m e) nan p q = absurd q
divided (fin false m e) (inf t) p q = absurd q
divided (fin false m e) (fin true n d) p q = absurd q
divided (fin false m e) (fin false n d) p q =
    let z : 0 < n = ltb→lt 0 n q in
    rw (ne_eqb n 0 (λ i. absurd (omega arith)))

-- of two whole numbers, their fraction rounded
quotient : (x y : Float) (a b : ℕ) → 0 < a → 0 < b → HasValue x false a 1 → HasValue y false b 1 → div binary64 x y ≡ round binary64 false a b
quotient x y a b A B v w =
    let p : num x ≡ a * den x = sym (mul-one (num x)) ∙ value→cross x a 1 v in
    let q : num y ≡ b * den y = sym (mul-one (num y)) ∙ value→cross y b 1 w in
    let n : 0 < num y = rw q (mul-pos B (den_pos y)) in
    let e : num x * den y * b ≡ a * (num y * den x) = rw (p, q) (simp (mul_assoc, mul_comm, mul_left_comm)) in
    divided x y (positive_of_value x a 1 v A) (positive_of_value y b 1 w B)
    ∙ round_same binary64 false (num x * den y) (num y * den x) a b (mul-pos n (den_pos x)) B e

-- a whole number as a float is not rounded
abbrev as_float : ℕ → Float
as_float n = of_int binary64 (pos n)

exact : (n : ℕ) → n ≤ 2 ^ 53 → HasValue (as_float n) false n 1
unfolding of_int
exact n h = round_whole binary64 false n h

-- 2 ^ 31, above every quotient
abbrev enough : Float
enough = fin false 1 (pos 31)

-- neither is rounded
lower : round binary64 false 1 1 ≡ one
unfolding round
lower = refl

upper : round binary64 false (2 ^ 31) 1 ≡ enough
unfolding round
upper = refl

-- what is at most that is below 2 ^ 53
below : (x : Float) → T (positive x) → T (le x enough) → T (lt x large)
unfolding lt
below nan p h = absurd p
below (inf s) p h = absurd p
below (fin true m e) p h = absurd p
below (fin false m e) p h =
    let k = le→cross (fin false m e) enough p tt h in
    lt→ltb (m * up e * 1) (1 * 2 ^ 53 * down e) (omega (arith, k, down_pos e))

-- the measured cost by the least, as a float
abbrev pub ratio : (least measured : ℕ) → Float
ratio least measured = div binary64 (as_float measured) (as_float least)

module _ (least measured : ℕ) (a : 1 ≤ least) (b : least ≤ measured) (c : measured ≤ 2048000000) where
  rounded : ratio least measured ≡ round binary64 false measured least
  rounded =
      quotient (as_float measured) (as_float least) measured least (omega arith) (omega arith)
      (exact measured (omega arith)) (exact least (omega arith))

  -- it passes both tests of the definition
  pub ratio_in_range : (le one (ratio least measured) ≡ true) × (lt (ratio least measured) large ≡ true)
  ratio_in_range =
      let q = ratio least measured in
      let l : T (le one q) = rw (rounded, ← lower) (round_mono binary64 1 1 measured least (lit< tt) a (omega arith)) in
      let h : T (le q enough) = rw (rounded, ← upper) (round_mono binary64 measured least (2 ^ 31) 1 a (lit< tt) (omega arith)) in
      (is_true (le one q) l, is_true (lt q large) (below q (between one q enough tt tt l h) h))

  -- so the answer is its digits
  pub ratio_digits : cut_of (ratio least measured) ≡ fraction (num (ratio least measured)) (den (ratio least measured))
  ratio_digits = rw (ratio_in_range.0, ratio_in_range.1)

  -- and never 0 and 0
  pub ratio_whole : 1 ≤ (cut_of (ratio least measured)).whole
  ratio_whole =
      let q = ratio least measured in
      let w = within q ratio_in_range.0 ratio_in_range.1 in
      rw ratio_digits ((le-div_iff_mul-le (den_pos q)).1 (rw one-mul w.least))
