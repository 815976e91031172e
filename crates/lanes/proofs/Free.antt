-- The first free row, and how many rows are busy. Assumes nothing.
use mathlib.Core.Path.{◌≡◌, refl}
use Prim.Native.Nat.{ℕ, zero, suc, ◌+◌, ◌≤◌, ◌<◌}
use native.Mathlib.Omega.{arith}
use mathlib.Core.Bool.{cond}
use mathlib.Core.List.{List, [], ◌∷◌}
use lib.ListN.{length, get_or, set}
use lib.Dec.{eqb, ltb}
use borrow.Author.Tests.{eqb-true, ltb-false}
use Rattle.std.specs.List.{position, position_or_len}
use Rattle.std.specs.Option.{unwrap_or}
use Rattle.std.proofs.lemmas.List.Recursion.{is_position_or_len}
use Rattle.model.proofs.Sums.{split}
use Rattle.lanes.specs.Lanes.{first_free}

-- one for a busy row
abbrev pub bit : ℕ → ℕ
bit b = cond (eqb b 0) 0 1

-- how many rows are busy
abbrev pub ones : List ℕ → ℕ
ones [] = 0
ones (b ∷ l) = bit b + ones l

-- the rows before the first free one are busy
pub free_low : (l : List ℕ) → first_free l ≤ ones l
free_low [] = omega arith
free_low (b ∷ l) = split (eqb b 0) (λ e. rw e (omega arith)) (λ e. rw e (omega (arith, free_low l)))

-- it is free
pub free_zero : (l : List ℕ) → first_free l < length l → get_or l (first_free l) 0 ≡ 0
free_zero [] h = refl
free_zero (b ∷ l) h =
    split (eqb b 0) (λ e. rw e (eqb-true b 0 e)) (λ e. rw e (free_zero l (let k = rw e at h in omega arith)))

-- a row that is changed changes how many are busy
pub ones_set : (l : List ℕ) (i v : ℕ) → i < length l → ones (set l i v) + bit (get_or l i 0) ≡ ones l + bit v
ones_set [] i v h = absurd (omega arith)
ones_set (b ∷ l) zero v h = omega arith
ones_set (b ∷ l) (suc i) v h = omega (arith, ones_set l i v (omega arith))

-- it is where the library's search stops
free_is : (l : List ℕ) → first_free l ≡ position_or_len (λ b. eqb b 0) l
free_is = is_position_or_len first_free (λ b. eqb b 0) refl (λ b l. let e : 1 + first_free l ≡ suc (first_free l) = omega arith in rw e)

free_long : (l : List ℕ) → first_free l ≤ length l
free_long [] = omega arith
free_long (b ∷ l) = split (eqb b 0) (λ e. rw e (omega arith)) (λ e. rw e (omega (arith, free_long l)))

-- what the search finds, or as many as there are
pub found : (l : List ℕ) → unwrap_or (position (λ b. eqb b 0) l) (length l) ≡ first_free l
found l =
    let e = free_is l in
    split (ltb (first_free l) (length l))
    (λ h. rw (← e, h))
    (λ h. rw (← e, h) (omega (arith, ltb-false _ _ h, free_long l)))
