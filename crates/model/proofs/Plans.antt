-- Sound flags name allowed contents, wherever no gap holds more than w items. Assumes nothing.
use mathlib.Core.Path.{◌≡◌, refl, sym, ◌∙◌}
use Prim.Native.Nat.{ℕ, zero, suc, ◌≤◌, ◌<◌}
use native.Mathlib.Omega.{arith}
use mathlib.Core.Bool.{Bool, true, false, cond, ◌&&◌, false≢true}
use mathlib.Core.List.{List, [], ◌∷◌}
use lib.ListN.{length, drop}
use lib.Dec.{eqb}
use borrow.Author.Tests.{eqb-true, eq-eqb}
use Rattle.model.specs.Model.{Rules, Request, Trace, Contents, elem, items, may, AllowedFrom, Allowed}
use Rattle.model.specs.Plans.{Flags, request_at, contents, FlagsFrom, occupancy, SoundFlags}
use Rattle.model.proofs.Sums.{split}
use Rattle.model.proofs.Sets.{at_most, elem_head, elem_tail}

-- only a request of its own changes whether an item is held
abbrev pub Stays : Contents → (t : ℕ) → List Request → Type 0
Stays S t [] = Unit {0}
Stays S t (r ∷ rs) = ((i : ℕ) → eqb r.item i ≡ false → S (suc t) i ≡ S t i) × Stays S (suc t) rs

-- both sides of an `and` that holds
pub both : (a b : Bool) → a && b ≡ true → (a ≡ true) × (b ≡ true)
both true b h = (refl, h)
both false b h = absurd (false≢true h)

-- what was held may be held
pub may_held : (ru : Rules) (t : ℕ) (r : Request) (i : ℕ) (b : Bool) → b ≡ true → may ru t r i b ≡ true
may_held ru t r i b e = rw e

-- the item of a read may be held after it
pub may_read : (ru : Rules) (t : ℕ) (r : Request) → r.write ≡ false → (b : Bool) → may ru t r r.item b ≡ true
may_read ru t r e true = refl
may_read ru t r e false = rw (e, eq-eqb r.item r.item refl)

-- ---- the items of requests

-- an item stays among the items when a request is put in front
pub elem_items : (i : ℕ) (r : Request) (rs : List Request) → elem i (items rs) ≡ true → elem i (items (r ∷ rs)) ≡ true
elem_items i r rs h =
    split (elem r.item (items rs)) (λ e. rw e h) (λ e. rw e (elem_tail i r.item (items rs) h))

-- the first request's item is among the items
pub elem_item : (r : Request) (rs : List Request) → elem r.item (items (r ∷ rs)) ≡ true
elem_item r rs = split (elem r.item (items rs)) (λ e. rw e e) (λ e. rw e (elem_head r.item (items rs)))

-- an item of a request is among the items
pub elem_get : (t : ℕ) (all : List Request) → t < length all → elem (request_at all t).item (items all) ≡ true
elem_get zero [] h = absurd (omega arith)
elem_get (suc t) [] h = absurd (omega arith)
elem_get zero (r ∷ all) h = elem_item r all
elem_get (suc t) (r ∷ all) h = elem_items _ r all (elem_get t all (omega arith))

-- what follows the first t requests
pub drop_head : (t : ℕ) (all : List Request) (r : Request) (rs : List Request) → drop t all ≡ r ∷ rs
    → (request_at all t ≡ r) × (drop (suc t) all ≡ rs) × (t < length all)
drop_head zero [] r rs e = let z : ◌≡◌ {A = ℕ} 0 1 = cc in absurd (omega arith)
drop_head zero (x ∷ all) r rs e = (cc, cc, omega arith)
drop_head (suc t) [] r rs e = let z : ◌≡◌ {A = ℕ} 0 1 = cc in absurd (omega arith)
drop_head (suc t) (x ∷ all) r rs e = let k = drop_head t all r rs e in (k.0, k.1, omega arith)

-- ---- the contents that flags name

module _ (all : List Request) (x : Flags) where
  -- only items of the trace are held
  pub held_known : (t i : ℕ) → t ≤ length all → contents all x t i ≡ true → elem i (items all) ≡ true
  held_known zero i l h = absurd (false≢true h)
  held_known (suc t) i l h =
      split (eqb (request_at all t).item i)
      (λ e. rw (← eqb-true _ i e) (elem_get t all l))
      (λ e. held_known t i (omega arith) (rw e at h))

  -- one step, where r is the request that follows the first t
  pub contents_step : (t : ℕ) (r : Request) (rs : List Request) (i : ℕ) → drop t all ≡ r ∷ rs
      → contents all x (suc t) i ≡ cond (eqb r.item i) (x (suc t)) (contents all x t i)
  contents_step t r rs i e = rw (drop_head t all r rs e).0

  -- an item stays as it is but at its own requests
  pub contents_stay : (t : ℕ) (rs : List Request) → drop t all ≡ rs → Stays (contents all x) t rs
  contents_stay t [] e = tt
  contents_stay t (r ∷ rs) e =
      ((λ i n. contents_step t r rs i e ∙ rw n), contents_stay (suc t) rs (drop_head t all r rs e).1)

  allowed_from : (ru : Rules) (t : ℕ) (rs : List Request) → drop t all ≡ rs → FlagsFrom ru t rs x (contents all x)
      → ((g : ℕ) → g ≤ length all → occupancy all (contents all x) g ≤ ru.slots) → AllowedFrom ru t rs (contents all x)
  allowed_from ru t [] e f o = tt
  allowed_from ru t (r ∷ rs) e (f, fs) o =
      let k = drop_head t all r rs e in (
        (λ i h. let v : cond (eqb r.item i) (x (suc t)) (contents all x t i) ≡ true = sym (contents_step t r rs i e) ∙ h in
            split (eqb r.item i)
            (λ c. rw (← eqb-true _ i c) (both (elem r.item (items rs)) _ (f (rw c at v))).1)
            (λ c. may_held ru t r i _ (rw c at v))),
        at_most ru.slots (contents all x (suc t)) (items all) (λ i h. held_known (suc t) i k.2 h) (o (suc t) k.2),
        allowed_from ru (suc t) rs k.1 fs o,
      )

-- the flags thus name allowed contents
pub flags_name_allowed : (tr : Trace) (x : Flags) → SoundFlags tr x → Allowed tr (contents tr.reqs x)
flags_name_allowed tr x s =
    record { empty = λ i. refl; steps = allowed_from tr.reqs x tr.rules 0 tr.reqs refl s.stand s.room }
