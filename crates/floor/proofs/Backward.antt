-- The least prices from the last request to the first: what each request's price is, by that of the next request of its item.
-- Assumes nothing.
use mathlib.Core.Path.{◌≡◌, refl, sym, ◌∙◌, ap}
use Prim.Native.Nat.{ℕ, zero, suc, ◌+◌, ◌*◌, ◌≤◌, ◌<◌, min}
use native.Mathlib.Omega.{arith}
use native.Mathlib.Decide.{dec_lt}
use native.Mathlib.Nat.{zero-add, le_trans}
use mathlib.Core.Bool.{Bool, true, false, cond, false≢true}
use mathlib.Core.List.{List, [], ◌∷◌}
use lib.ListN.{length, drop}
use lib.Seq.{drop-cons}
use lib.Dec.{eqb}
use borrow.Author.Tests.{eq-eqb, ltb-false}
use Rattle.model.specs.Model.{Rules, Request, Rents, items, elem, sum_over, least_from, charge_of, rents_from}
use Rattle.model.specs.Plans.{request_at}
use Rattle.model.specs.Links.{next_from, next_of}
use Rattle.model.proofs.Sums.{split, sum_same, sum_change}
use Rattle.model.proofs.Duality.{items_distinct}
use Rattle.model.proofs.Plans.{drop_head}
use Rattle.model.proofs.Links.{next_is, has_next}
use Rattle.model.proofs.Least.{least_step}
use Rattle.model.proofs.Stretch.{other_out, other_in, read_out, read-in, write-out, write-in}
use Rattle.floor.specs.Pass.{paid_to}

-- ---- running sums of the rents

-- they do not fall
pub paid_mono : (rent : Rents) (t u : ℕ) → t ≤ u → paid_to rent t ≤ paid_to rent u
paid_mono rent t zero l = let q : t ≡ 0 = omega arith in rw q (omega arith)
paid_mono rent t (suc u) l = elim (dec_lt t (suc u)) [
  | yes h ↦ omega (arith, paid_mono rent t u (omega arith))
  | no h ↦ let q : t ≡ suc u = omega arith in rw q (omega arith)
]

-- the rents of the gaps after these requests
pub rents_paid : (rent : Rents) (t : ℕ) (rs : List Request) → paid_to rent t + rents_from rent t rs ≡ paid_to rent (t + length rs)
rents_paid rent t [] = let q : t + 0 ≡ t = omega arith in rw q (omega arith)
rents_paid rent t (r ∷ rs) =
    let q : t + suc (length rs) ≡ suc t + length rs = omega arith in rw q (omega (arith, rents_paid rent (suc t) rs))

-- nothing is left past the end
pub drop_past : (t : ℕ) (all : List Request) → length all ≤ t → drop t all ≡ []
drop_past zero [] l = refl
drop_past zero (r ∷ all) l = absurd (omega arith)
drop_past (suc t) [] l = refl
drop_past (suc t) (r ∷ all) l = drop_past t all (omega arith)

-- a request whose item is not held after it charges no more than its cost
charge_out : (ru : Rules) (i : ℕ) (r : Request) (b : Bool) → charge_of ru i r b false ≤ r.cost
charge_out ru i r true =
    split (eqb r.item i) (λ e. split r.write (λ w. rw (e, w) (omega arith)) (λ w. rw (e, w) (omega arith))) (λ e. rw e (omega arith))
charge_out ru i r false =
    split (eqb r.item i) (λ e. split r.write (λ w. rw (e, w) (omega arith)) (λ w. rw (e, w) (omega arith))) (λ e. rw e (omega arith))

module _ (ru : Rules) (rent : Rents) (all : List Request) where
  -- the least price of item i from gap t on
  abbrev pub least_at : (i t : ℕ) → Bool → ℕ
  least_at i t b = least_from ru rent i t (drop t all) b

  -- the same of request t's own item, from the gap before it on
  abbrev pub own_at : (t : ℕ) → Bool → ℕ
  own_at t b = least_at (request_at all t).item t b

  -- the least prices from gap t on of the items asked for then
  abbrev pub leasts_at : (t : ℕ) → ℕ
  leasts_at t = sum_over (items (drop t all)) (λ i. least_at i t false)

  -- ---- up to the next request of the item

  next_out : (i t : ℕ) (rs : List Request) → drop t all ≡ rs
      → least_from ru rent i t rs false ≡ least_at i (next_from i t rs) false
  next_out i t [] d = rw d
  next_out i t (r ∷ rs) d =
      split (eqb r.item i)
      (λ c. let u : next_from i t (r ∷ rs) ≡ t = rw c in rw (u, d))
      (λ c. let u : next_from i t (r ∷ rs) ≡ next_from i (suc t) rs = rw c in
      rw u (other_out ru rent i t r rs c ∙ next_out i (suc t) rs (drop_head t all r rs d).1))

  -- (`x` is what is paid for holding the item so far, and `z` what holding it to its next request comes to)
  next_in : (i t x z : ℕ) (rs : List Request) → drop t all ≡ rs
      → z + paid_to rent t ≡ x + (least_at i (next_from i t rs) true + paid_to rent (next_from i t rs))
      → min (least_from ru rent i t rs false) (x + least_from ru rent i t rs true) ≡ min (least_at i (next_from i t rs) false) z
  next_in i t x z [] d e = let k = rw d at e in rw d (omega arith)
  next_in i t x z (r ∷ rs) d e =
      split (eqb r.item i)
      (λ c. let u : next_from i t (r ∷ rs) ≡ t = rw c in
      let k = rw (u, d) at e in rw (u, d) (omega arith))
      (λ c. let u : next_from i t (r ∷ rs) ≡ next_from i (suc t) rs = rw c in
      let k = rw u at e in
      let ih = next_in i (suc t) (x + rent (suc t)) z rs (drop_head t all r rs d).1 (omega arith) in
      rw u (omega (arith, other_out ru rent i t r rs c, other_in ru rent i t r rs c, ih)))

  -- the next request's own item is this one's
  own_next : (t : ℕ) (b : Bool) → least_at (request_at all t).item (next_of all t) b ≡ own_at (next_of all t) b
  own_next t b = elim (dec_lt (next_of all t) (length all)) [
    | yes h ↦ rw ((next_is all t).has h)
    | no h ↦ rw (drop_past (next_of all t) all (omega arith))
  ]

  -- ---- one request

  -- what request t comes to, by the two prices at the next request of its item: `k` is the price of holding the item to there
  pub record Back (t k : ℕ) : Type 0 where
    pub out : own_at t false
        ≡ cond (request_at all t).write (own_at (next_of all t) false) ((request_at all t).cost + min (own_at (next_of all t) false) (ru.fill + k))
    pub kept : own_at t true ≡ cond (request_at all t).write (request_at all t).cost 0 + min (own_at (next_of all t) false) k
    pub sums : leasts_at t + own_at (next_of all t) false ≡ leasts_at (suc t) + own_at t false

  module _ (t : ℕ) (l : t < length all) where
    whole : drop t all ≡ request_at all t ∷ drop (suc t) all
    whole = drop-cons all t (record { write = false; item = 0; cost = 0 }) l

    after-out : least_at (request_at all t).item (suc t) false ≡ own_at (next_of all t) false
    after-out = next_out (request_at all t).item (suc t) (drop (suc t) all) refl ∙ own_next t false

    after-in : (x k : ℕ) → k + paid_to rent t ≡ own_at (next_of all t) true + paid_to rent (next_of all t)
        → min (least_at (request_at all t).item (suc t) false) (x + rent (suc t) + least_at (request_at all t).item (suc t) true)
        ≡ min (own_at (next_of all t) false) (x + k)
    after-in x k e =
        let i = (request_at all t).item in
        let h = next_in i (suc t) (x + rent (suc t)) (x + k) (drop (suc t) all) refl (omega (arith, own_next t true)) in
        omega (arith, h, own_next t false)

    after-held : (k : ℕ) → k + paid_to rent t ≡ own_at (next_of all t) true + paid_to rent (next_of all t)
        → min (least_at (request_at all t).item (suc t) false) (rent (suc t) + least_at (request_at all t).item (suc t) true)
        ≡ min (own_at (next_of all t) false) k
    after-held k e = omega (arith, after-in 0 k e)

    own : eqb (request_at all t).item (request_at all t).item ≡ true
    own = eq-eqb (request_at all t).item (request_at all t).item refl

    -- the sum over the items changes at the request's item only
    sums-change : leasts_at t + own_at (next_of all t) false ≡ leasts_at (suc t) + own_at t false
    sums-change =
        let j = (request_at all t).item in
        let e : (i : ℕ) → eqb j i ≡ false → least_at i t false ≡ least_at i (suc t) false
        = λ i c. rw whole (other_out ru rent i t (request_at all t) (drop (suc t) all) c) in
        let l' = items (drop (suc t) all) in
        let k = has_next all t l in
        split (elem j l')
        (λ c. let q : items (drop t all) ≡ l' = rw (whole, c) in
        rw q (omega (arith, sum_change j (λ i. least_at i t false) (λ i. least_at i (suc t) false) l' (items_distinct (drop (suc t) all)) c e, after-out)))
        (λ c. let q : items (drop t all) ≡ j ∷ l' = rw (whole, c) in
        let z : drop (next_of all t) all ≡ [] = drop_past (next_of all t) all (ltb-false _ _ (sym k ∙ c)) in
        let y : own_at (next_of all t) false ≡ 0 = rw z in
        rw q (omega (arith, sum_same j (λ i. least_at i t false) (λ i. least_at i (suc t) false) l' c e, y)))

    pub back : (k : ℕ) → k + paid_to rent t ≡ own_at (next_of all t) true + paid_to rent (next_of all t) → Back t k
    back k e =
        let i = (request_at all t).item in
        let rs = drop (suc t) all in
        let d : (b : Bool) → own_at t b ≡ least_from ru rent i t (request_at all t ∷ rs) b = λ b. rw whole in
        split (request_at all t).write
        (λ w. record {
          out = rw w (d false ∙ write-out ru rent i t (request_at all t) rs own w ∙ after-out);
          kept = rw w (d true ∙ write-in ru rent i t (request_at all t) rs own w ∙ ap (λ (m : ℕ). (request_at all t).cost + m) (after-held k e));
          sums = sums-change;
        })
        (λ w. record {
          out = rw w (d false ∙ read_out ru rent i t (request_at all t) rs own w ∙ ap (λ (m : ℕ). (request_at all t).cost + m) (after-in ru.fill k e));
          kept = rw (w, zero-add) (d true ∙ read-in ru rent i t (request_at all t) rs own w ∙ after-held k e);
          sums = sums-change;
        })

  -- ---- how large a price is

  -- no price from gap t on is above the costs of the requests from there
  pub least_top : (c i t : ℕ) (rs : List Request) (b : Bool) → drop t all ≡ rs
      → ((s : ℕ) → s < length all → (request_at all s).cost ≤ c) → least_from ru rent i t rs b ≤ length rs * c
  least_top c i t [] b d h = omega arith
  least_top c i t (r ∷ rs) b d h =
      let k = drop_head t all r rs d in
      let cost : r.cost ≤ c = rw (← k.0) (h t k.2) in
      le_trans (least_step ru rent i t r rs b false _ (λ e. absurd (false≢true e)) (least_top c i (suc t) rs false k.1 h))
      (omega (arith, charge_out ru i r b))
