-- The local conditions on a plan's worths make its price the least, for one item. Assumes nothing.
use mathlib.Core.Path.{◌≡◌, refl, sym}
use Prim.Native.Nat.{ℕ, suc, ◌+◌, ◌≤◌, min, max}
use native.Mathlib.Omega.{arith}
use mathlib.Core.Bool.{Bool, true, false, cond, not, ◌&&◌, false≢true}
use mathlib.Core.List.{List, [], ◌∷◌}
use lib.Dec.{eqb}
use borrow.Author.Tests.{eqb-true}
use Rattle.model.specs.Model.{Rules, Request, Contents, Rents, charge, price_from, least_from}
use Rattle.model.proofs.Sums.{split}
use Rattle.model.proofs.Plans.{Stays}
use Rattle.network.specs.Sound.{read_cost, write_cost}

-- the numbers of one item in one gap: the plan's price X from there on, whether the plan holds the item there, the least
-- prices f (not held) and t (held), an empty slot's worth p, and the held item's worth up − down
abbrev pub Good : Bool → (p up down X f t : ℕ) → Type 0
Good false p up down X f t = (X ≤ f) × (X + p + down ≤ t + max up (p + down))
Good true p up down X f t = p + down ≤ up → (X ≤ t) × (X + up ≤ f + p + down)

-- the conditions at a request: w: it is a write; b, a: held before it, after it; p, q: the worth of an empty slot, and of holding
-- its item, after it; up − down: what holding is worth up to the item's next request
pub record Local (fill : ℕ) (w b a : Bool) (p q up down : ℕ) : Type 0 where
  pub below : p ≤ q
  pub drops : b ≡ true → a ≡ false → q ≡ p
  pub above : w ≡ false → q ≤ p + fill
  pub fills : b ≡ false → a ≡ true → (w ≡ false) × (q ≡ p + fill)
  pub idle : a ≡ false → up ≤ q + down
  pub holds : a ≡ true → q + down ≤ up

-- a request of another item, whether or not it is a write
other_step : (w b : Bool) (p p' L up down X f t : ℕ) → L + p' ≡ p → Good b p' up down X f t
    → Good b p up down (0 + cond b L 0 + X) (cond (not w && false) (min (0 + f) (0 + L + t)) (0 + f)) (min (0 + f) (0 + L + t))
other_step false false p p' L up down X f t e g = omega arith
other_step true false p p' L up down X f t e g = omega arith
other_step false true p p' L up down X f t e g = λ h. let k = g (omega arith) in omega arith
other_step true true p p' L up down X f t e g = λ h. let k = g (omega arith) in omega arith

-- a request's charge by its kind and cost alone
abbrev charge_by : Rules → (w : Bool) → (c : ℕ) → (b a : Bool) → ℕ
charge_by ru w c b a = charge ru (record { write = w; item = 0; cost = c }) b a

-- a request of the item itself
own_step : (ru : Rules) (w : Bool) (c : ℕ) (b a : Bool) (p p' q L up down X f t : ℕ) → L + p' ≡ p
    → Local ru.fill w b a p q up down → Good a p' up down X f t
    → Good b p (q + cond w 0 c) (cond w c 0) (charge_by ru w c b a + cond a L 0 + X)
    (cond (not w && true) (min (charge_by ru w c false false + f) (charge_by ru w c false true + L + t)) (charge_by ru w c false false + f))
    (min (charge_by ru w c true false + f) (charge_by ru w c true true + L + t))
own_step ru false c false false p p' q L up down X f t e l g = let u = l.above refl in let h = l.idle refl in omega arith
own_step ru false c true false p p' q L up down X f t e l g =
    λ z. let d = l.drops refl refl in let h = l.idle refl in omega arith
own_step ru false c false true p p' q L up down X f t e l g =
    let h = l.holds refl in let u = l.fills refl refl in let k = g (omega (arith, l.below)) in omega arith
own_step ru false c true true p p' q L up down X f t e l g =
    λ z. let h = l.holds refl in let u = l.above refl in let k = g (omega (arith, l.below)) in omega arith
own_step ru true c false false p p' q L up down X f t e l g = let h = l.idle refl in omega arith
own_step ru true c true false p p' q L up down X f t e l g =
    λ z. let d = l.drops refl refl in let h = l.idle refl in omega arith
own_step ru true c false true p p' q L up down X f t e l g = absurd (false≢true (sym (l.fills refl refl).0))
own_step ru true c true true p p' q L up down X f t e l g =
    λ z. let h = l.holds refl in let k = g (omega (arith, l.below)) in omega arith

-- what holding item i is worth from gap t on, up to its next request, is `gain` − `loss`
abbrev pub gain : (P Q : ℕ → ℕ) → (i t : ℕ) → List Request → ℕ
gain P Q i t [] = P t
gain P Q i t (r ∷ rs) = cond (eqb r.item i) (Q t + read_cost r) (gain P Q i (suc t) rs)

-- what the next request takes from it
abbrev pub loss : (i : ℕ) → List Request → ℕ
loss i [] = 0
loss i (r ∷ rs) = cond (eqb r.item i) (write_cost r) (loss i rs)

-- the local conditions from gap t on
abbrev pub LocalFrom : (fill : ℕ) → Rents → (P Q : ℕ → ℕ) → Contents → (t : ℕ) → List Request → Type 0
LocalFrom fill rent P Q S t [] = Unit {0}
LocalFrom fill rent P Q S t (r ∷ rs) =
    (rent (suc t) + P (suc t) ≡ P t)
    × Local fill r.write (S t r.item) (S (suc t) r.item) (P t) (Q t) (gain P Q r.item (suc t) rs) (loss r.item rs)
    × LocalFrom fill rent P Q S (suc t) rs

module _ (ru : Rules) (rent : Rents) (P Q : ℕ → ℕ) (S : Contents) where
  -- each item's price under the plan is the least
  pub good : (i t : ℕ) (rs : List Request) → Stays S t rs → LocalFrom ru.fill rent P Q S t rs
      → Good (S t i) (P t) (gain P Q i t rs) (loss i rs) (price_from ru rent i t rs (λ g. S g i))
      (least_from ru rent i t rs false) (least_from ru rent i t rs true)
  good i t [] st l = base (S t i)
    where
      base : (b : Bool) → Good b (P t) (P t) 0 0 0 0
      base true = λ h. omega arith
      base false = omega arith
  good i t (r ∷ rs) st l =
      split (eqb r.item i)
      (λ e. let n : Local ru.fill r.write (S t i) (S (suc t) i) (P t) (Q t) (gain P Q i (suc t) rs) (loss i rs)
      = rw (eqb-true r.item i e) at l.1 in
      rw e (own_step ru r.write r.cost (S t i) (S (suc t) i) _ _ _ _ _ _ _ _ _ l.0 n (good i (suc t) rs st.1 l.2)))
      (λ e. rw (st.0 i e, e) (other_step r.write (S t i) _ _ _ _ _ _ _ _ l.0 (rw (st.0 i e) at (good i (suc t) rs st.1 l.2))))
