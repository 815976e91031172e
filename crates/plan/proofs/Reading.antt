-- Laws of rents read one by one into lent memory, and of row 17 tried rent by rent. Assumes nothing.
use mathlib.Core.Path.{◌≡◌, refl, ap}
use Prim.Native.Nat.{ℕ, zero, suc, ◌+◌, ◌<◌, min}
use native.Mathlib.Omega.{arith}
use mathlib.Core.List.{List, [], ◌∷◌}
use lib.ListN.{length, get_or, set, drop}
use lib.Seq.{drop-cons}
use lib.Dec.{ltb}
use Rattle.fields.specs.Bytes.{put_front}
use Rattle.model.specs.Links.{listed}
use Rattle.model.specs.Numbers.{max_rent}
use Rattle.model.specs.Refusals.{row}
use Rattle.plan.specs.PlanFile.{rents_tried}

-- ---- numbers put in the first places

pub length-put : (xs l : List ℕ) → length (put_front xs l) ≡ length l
length-put [] l = refl
length-put (x ∷ xs) [] = refl
length-put (x ∷ xs) (y ∷ l) = ap suc (length-put xs l)

module _ (f : ℕ → ℕ) where
  -- one more of them
  pub put_one : (k t : ℕ) (l : List ℕ) → k < length l → set (put_front (listed f k t) l) k (f (t + k)) ≡ put_front (listed f (suc k) t) l
  put_one k t [] h = absurd (omega arith)
  put_one zero t (y ∷ l) h = let z : t + 0 ≡ t = omega arith in rw z
  put_one (suc k) t (y ∷ l) h =
      let e : t + suc k ≡ suc t + k = omega arith in rw e (ap (λ (s : List ℕ). f t ∷ s) (put_one k (suc t) l (omega arith)))

  -- those without a place do not matter
  pub put_fewer : (k t : ℕ) (l : List ℕ) → put_front (listed f (min k (length l)) t) l ≡ put_front (listed f k t) l
  put_fewer zero t l = let z : min 0 (length l) ≡ 0 = omega arith in rw z
  put_fewer (suc k) t [] = let z : min (suc k) 0 ≡ 0 = omega arith in rw z
  put_fewer (suc k) t (y ∷ l) =
      let e : min (suc k) (suc (length l)) ≡ suc (min k (length l)) = omega arith in
      rw e (ap (λ (s : List ℕ). f t ∷ s) (put_fewer k (suc t) l))

-- ---- row 17, rent by rent

-- the rents from gap t on are the first of them and the others
pub rents_step : (t : ℕ) (l : List ℕ) → t < length l → rents_tried t (drop t l) ≡ row (ltb max_rent (get_or l t 0)) 17 (suc t) (rents_tried (suc t) (drop (suc t) l))
rents_step t l h = rw (drop-cons l t 0 h)
