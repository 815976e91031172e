-- The least price over a stretch of requests for other items, and at a request of the item: what the floor's code computes. Assumes nothing.
use mathlib.Core.Path.{◌≡◌, ◌∙◌, ap}
use Prim.Native.Nat.{ℕ, suc, ◌+◌, min}
use native.Mathlib.Omega.{arith}
use native.Mathlib.Nat.{add-zero}
use mathlib.Core.Bool.{Bool, true, false}
use mathlib.Core.List.{List, [], ◌∷◌, ◌++◌}
use lib.ListN.{length}
use lib.Dec.{eqb}
use Rattle.model.specs.Model.{Rules, Request, Rents, least_from, rents_from}
use Rattle.model.proofs.Sums.{split}

-- none of the requests is for item i
abbrev pub Others : (i : ℕ) → List Request → Type 0
Others i [] = Unit {0}
Others i (r ∷ rs) = (eqb r.item i ≡ false) × Others i rs

module _ (ru : Rules) (rent : Rents) (i : ℕ) where
  abbrev least : ℕ → List Request → Bool → ℕ
  least t rs b = least_from ru rent i t rs b

  -- one request of another item
  pub other_out : (t : ℕ) (r : Request) (rs : List Request) → eqb r.item i ≡ false → least t (r ∷ rs) false ≡ least (suc t) rs false
  other_out t r rs e = split r.write (λ w. rw (e, w) (omega arith)) (λ w. rw (e, w) (omega arith))

  pub other_in : (t : ℕ) (r : Request) (rs : List Request) → eqb r.item i ≡ false
      → least t (r ∷ rs) true ≡ min (least (suc t) rs false) (rent (suc t) + least (suc t) rs true)
  other_in t r rs e = rw e (omega arith)

  -- a stretch of them
  pub stretch_out : (t : ℕ) (ps rs : List Request) → Others i ps → least t (ps ++ rs) false ≡ least (t + length ps) rs false
  stretch_out t [] rs o = ap (λ (n : ℕ). least n rs false) (omega arith)
  stretch_out t (p ∷ ps) rs o =
      other_out t p (ps ++ rs) o.0 ∙ stretch_out (suc t) ps rs o.1 ∙ ap (λ (n : ℕ). least n rs false) (omega arith)

  -- (`x` is what is paid for holding the item so far; with no request in the stretch, the item cannot be dropped in it)
  pub stretch_in : (x t : ℕ) (ps rs : List Request) → Others i ps
      → min (least t (ps ++ rs) false) (x + least t (ps ++ rs) true)
      ≡ min (least (t + length ps) rs false) (x + rents_from rent t ps + least (t + length ps) rs true)
  stretch_in x t [] rs o = rw (add-zero t) (omega arith)
  stretch_in x t (p ∷ ps) rs o =
      let q : suc t + length ps ≡ t + suc (length ps) = omega arith in
      let ih = rw q at (stretch_in (x + rent (suc t)) (suc t) ps rs o.1) in
      omega (arith, other_out t p (ps ++ rs) o.0, other_in t p (ps ++ rs) o.0, ih)

  -- a request of the item
  module _ (t : ℕ) (r : Request) (rs : List Request) (own : eqb r.item i ≡ true) where
    pub read_out : r.write ≡ false
        → least t (r ∷ rs) false ≡ r.cost + min (least (suc t) rs false) (ru.fill + rent (suc t) + least (suc t) rs true)
    read_out w = rw (own, w) (omega arith)

    pub read-in : r.write ≡ false
        → least t (r ∷ rs) true ≡ min (least (suc t) rs false) (rent (suc t) + least (suc t) rs true)
    read-in w = rw (own, w) (omega arith)

    pub write-out : r.write ≡ true → least t (r ∷ rs) false ≡ least (suc t) rs false
    write-out w = rw (own, w) (omega arith)

    pub write-in : r.write ≡ true
        → least t (r ∷ rs) true ≡ r.cost + min (least (suc t) rs false) (rent (suc t) + least (suc t) rs true)
    write-in w = rw (own, w) (omega arith)
