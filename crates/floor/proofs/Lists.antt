-- What stands at a place of a list, and running sums of a list of rents. Assumes nothing.
use mathlib.Core.Path.{◌≡◌, refl, sym, ◌∙◌}
use Prim.Native.Nat.{ℕ, zero, suc, ◌+◌, ◌*◌, ◌≤◌, ◌<◌}
use Rattle.std.specs.List.{sum}
use Rattle.std.proofs.lemmas.List.Sums.{sum_by-cons}
use native.Mathlib.Omega.{arith}
use mathlib.Core.List.{List, [], ◌∷◌}
use lib.ListN.{length, get_or, replicate}
use Rattle.model.specs.Plans.{rents_in}
use Rattle.floor.specs.Pass.{paid_to}

-- within the list it is no matter what stands beyond it
pub get_d_any : (l : List ℕ) (i d e : ℕ) → i < length l → get_or l i d ≡ get_or l i e
get_d_any [] zero d e h = absurd (omega arith)
get_d_any [] (suc i) d e h = absurd (omega arith)
get_d_any (x ∷ l) zero d e h = refl
get_d_any (x ∷ l) (suc i) d e h = get_d_any l i d e (omega arith)

-- the same number everywhere, beyond the end too
pub get_d_same : {A : Type 0} (k i : ℕ) (d : A) → get_or (replicate k d) i d ≡ d
get_d_same zero i d = refl
get_d_same (suc k) zero d = refl
get_d_same (suc k) (suc i) d = get_d_same k i d

-- the rents of the first t gaps are at most t times the largest
pub paid_top : (rents : List ℕ) (c t : ℕ) → ((s : ℕ) → get_or rents s 0 ≤ c) → paid_to (rents_in rents) t ≤ c * t
paid_top rents c zero h = omega arith
paid_top rents c (suc t) h = omega (arith, h t, paid_top rents c t h)

-- one rent in front is paid once more
paid_cons : (x : ℕ) (rents : List ℕ) (t : ℕ) → paid_to (rents_in (x ∷ rents)) (suc t) ≡ x + paid_to (rents_in rents) t
paid_cons x rents zero = omega arith
paid_cons x rents (suc t) = omega (arith, paid_cons x rents t)

-- what is paid up to the end is the sum of the rents
pub paid_sum : (rents : List ℕ) → paid_to (rents_in rents) (length rents) ≡ sum rents
paid_sum [] = refl
paid_sum (x ∷ rents) = paid_cons x rents (length rents) ∙ rw (paid_sum rents) (sym (sum_by-cons (λ (r : ℕ). r) x rents))
