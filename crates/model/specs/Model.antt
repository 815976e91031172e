-- The model of document 01, in its order: traces, contents, what is allowed, the charges, one item on its own, the floor, the least cost.
-- Requests are a list. Request t + 1 of the paper stands between gap t and gap t + 1; gap 0 is before the first request.
-- Contents say for each gap and item whether the item is held there; rents say each gap's price. Assumes nothing.
use Rattle.std.specs.Prelude.{◌≡◌, ℕ, suc, ◌+◌, ◌*◌, ◌≤◌, min, Bool, true, false, cond, ◌||◌, ◌&&◌, not, List, [], ◌∷◌, length, eqb, ℤ}
use Rattle.std.proofs.Math.IntN.{sub_ℕ}

-- ---- traces

-- what governs a trace: how many slots there are, and the price of a fill
pub record Rules : Type 0 where
  pub slots : ℕ
  pub fill : ℕ

-- a request: whether it is a write, its item and its cost
pub record Request : Type 0 where
  pub write : Bool
  pub item : ℕ
  pub cost : ℕ

-- the rules and the requests, first request first
pub record Trace : Type 0 where
  pub rules : Rules
  pub reqs : List Request

-- ---- sets of items

-- which items are in it
abbrev pub Set : Type 0
Set = ℕ → Bool

-- for each gap, the set of the items held in it
abbrev pub Contents : Type 0
Contents = ℕ → Set

-- for each gap, the price of holding one item across it
abbrev pub Rents : Type 0
Rents = ℕ → ℕ

-- whether i stands in the list
abbrev pub elem : ℕ → List ℕ → Bool
elem i [] = false
elem i (j ∷ l) = eqb i j || elem i l

-- no item stands twice in the list
abbrev pub Distinct : List ℕ → Type 0
Distinct [] = Unit {0}
Distinct (i ∷ l) = (elem i l ≡ false) × Distinct l

-- every item of the list is in the set
abbrev pub AllIn : Set → List ℕ → Type 0
AllIn s [] = Unit {0}
AllIn s (i ∷ l) = (s i ≡ true) × AllIn s l

-- no more than w items: no list of distinct items of the set is longer than w
abbrev pub AtMost : ℕ → Set → Type 0
AtMost w s = (l : List ℕ) → Distinct l → AllIn s l → length l ≤ w

-- ---- what is allowed

-- may item i be held after request r, which follows gap t, where `before` says whether it was held before it?
-- After a read, what was held and the item read; after a write, what was held.
abbrev pub may : Rules → (t : ℕ) → Request → (i : ℕ) → (before : Bool) → Bool
may ru t r i before = before || (not r.write && eqb r.item i)

-- from gap t on: every item held after a request may be, and no gap holds more items than there are slots
abbrev pub AllowedFrom : Rules → (t : ℕ) → List Request → Contents → Type 0
AllowedFrom ru t [] S = Unit {0}
AllowedFrom ru t (r ∷ rs) S =
    ((i : ℕ) → S (suc t) i ≡ true → may ru t r i (S t i) ≡ true) × AtMost ru.slots (S (suc t)) × AllowedFrom ru (suc t) rs S

-- the cache starts empty, and each step is allowed
pub record Allowed (tr : Trace) (S : Contents) : Type 0 where
  pub empty : (i : ℕ) → S 0 i ≡ false
  pub steps : AllowedFrom tr.rules 0 tr.reqs S

-- ---- charges: what a request pays, by whether its item is held before it and after it

-- a read of an item not held is a read miss
abbrev pub misses : Request → (before after : Bool) → Bool
misses r before after = not r.write && not before

-- a read miss after which the item is held is a fill
abbrev pub fills : Request → (before after : Bool) → Bool
fills r before after = misses r before after && after

-- a write of an item held is a write hit, even if the item is dropped then
abbrev pub strikes : Request → (before after : Bool) → Bool
strikes r before after = r.write && before

-- the table of charges: a read miss pays its cost, a fill F besides, a write hit its cost, all else nothing
abbrev pub charge : Rules → Request → (before after : Bool) → ℕ
charge ru r before after =
    cond (misses r before after) r.cost 0 + cond (fills r before after) ru.fill 0 + cond (strikes r before after) r.cost 0

-- what the requests from gap t on come to, by what each one counts for
abbrev pub sum_from : (Request → Bool → Bool → ℕ) → (t : ℕ) → List Request → Contents → ℕ
sum_from f t [] S = 0
sum_from f t (r ∷ rs) S = f r (S t r.item) (S (suc t) r.item) + sum_from f (suc t) rs S

-- the cost of contents: each request's charge
unfoldable pub cost : Trace → Contents → ℕ
cost tr S = sum_from (charge tr.rules) 0 tr.reqs S

-- how many requests are of a kind: read misses, fills or write hits
unfoldable pub count : (Request → Bool → Bool → Bool) → Trace → Contents → ℕ
count is tr S = sum_from (λ r before after. cond (is r before after) 1 0) 0 tr.reqs S

-- ---- one item on its own

-- what the request charges for item i: nothing if it is for another item
abbrev pub charge_of : Rules → (i : ℕ) → Request → (before after : Bool) → ℕ
charge_of ru i r before after = cond (eqb r.item i) (charge ru r before after) 0

-- the comings and goings of one item: whether it is held in each gap
abbrev pub History : Type 0
History = ℕ → Bool

-- they are allowed from gap t on, the other items and w left out of account
abbrev pub ComesFrom : Rules → (i t : ℕ) → List Request → History → Type 0
ComesFrom ru i t [] h = Unit {0}
ComesFrom ru i t (r ∷ rs) h = (h (suc t) ≡ true → may ru t r i (h t) ≡ true) × ComesFrom ru i (suc t) rs h

-- its charges and the rents of the gaps in which it is held
abbrev pub price_from : Rules → Rents → (i t : ℕ) → List Request → History → ℕ
price_from ru rent i t [] h = 0
price_from ru rent i t (r ∷ rs) h =
    charge_of ru i r (h t) (h (suc t)) + cond (h (suc t)) (rent (suc t)) 0 + price_from ru rent i (suc t) rs h

-- the least price from gap t on, where `before` says whether the item is held in gap t:
-- after the request it is not held or, where it may be, held
abbrev pub least_from : Rules → Rents → (i t : ℕ) → List Request → (before : Bool) → ℕ
least_from ru rent i t [] before = 0
least_from ru rent i t (r ∷ rs) before =
    let out = charge_of ru i r before false + least_from ru rent i (suc t) rs false in
    let kept = charge_of ru i r before true + rent (suc t) + least_from ru rent i (suc t) rs true in
    cond (may ru t r i before) (min out kept) out

-- ---- the floor

-- the items of the requests, each once
abbrev pub items : List Request → List ℕ
items [] = []
items (r ∷ rs) = cond (elem r.item (items rs)) (items rs) (r.item ∷ items rs)

-- a sum over a list of items
abbrev pub sum_over : List ℕ → (ℕ → ℕ) → ℕ
sum_over [] f = 0
sum_over (i ∷ l) f = f i + sum_over l f

-- the rents of the gaps that follow these requests
abbrev pub rents_from : Rents → (t : ℕ) → List Request → ℕ
rents_from rent t [] = 0
rents_from rent t (r ∷ rs) = rent (suc t) + rents_from rent (suc t) rs

-- the least prices of the items of the trace, added up
unfoldable pub leasts : Trace → Rents → ℕ
leasts tr rent = sum_over (items tr.reqs) (λ i. least_from tr.rules rent i 0 tr.reqs false)

-- the sum of all rents
unfoldable pub rents_all : Trace → Rents → ℕ
rents_all tr rent = rents_from rent 0 tr.reqs

-- the floor: the least prices, less w times the sum of all rents; it may be negative
unfoldable pub floor : Trace → Rents → ℤ
floor tr rent = sub_ℕ (leasts tr rent) (tr.rules.slots * rents_all tr rent)

-- ---- the least cost

-- c is the least cost: some allowed contents cost it, and none cost less
pub record Least (tr : Trace) (c : ℕ) : Type 0 where
  pub reached : (S : Contents) × Allowed tr S × (cost tr S ≡ c)
  pub below : (S : Contents) → Allowed tr S → c ≤ cost tr S
