-- A chart of the first t requests: no row shows two items in gap t, and every item held there has a row of a slot. Assumes nothing.
use mathlib.Core.Path.{◌≡◌, refl, sym, ◌∙◌, ap}
use Prim.Native.Nat.{ℕ, zero, suc, ◌≤◌, ◌<◌}
use native.Mathlib.Omega.{arith}
use native.Mathlib.Decide.{dec_lt}
use mathlib.Core.Bool.{Bool, true, false, cond, false≢true}
use mathlib.Core.List.{List, [], ◌∷◌, ◌++◌}
use lib.ListN.{length, get_or, set, replicate, length-set, length-append, length-replicate, get_or-append}
use lib.Seq.{get_or-set_same, get_or-set_other, get_or-append_seam}
use lib.Dec.{eqb, ltb}
use borrow.Author.Tests.{eqb-true, eqb-false, ltb-true}
use Rattle.model.specs.Numbers.{max_slots}
use Rattle.model.specs.Model.{Request, Trace, items}
use Rattle.model.specs.Plans.{Flags, request_at, contents, occupancy, SoundFlags}
use Rattle.model.specs.Links.{prev_to, prev_of}
use Rattle.model.proofs.Sums.{split, sum_zero}
use Rattle.model.proofs.Links.{prev_to_lem, held-prev, occ-step}
use Rattle.lanes.specs.Lanes.{row_in, first_free, place_for, place_at, chart_to}
use Rattle.lanes.proofs.Free.{bit, ones, free_low, free_zero, ones_set}

-- ---- lists

bit_cond : (b : Bool) → bit (cond b 1 0) ≡ cond b 1 0
bit_cond true = refl
bit_cond false = refl

ones_replicate : (k : ℕ) → ones (replicate k 0) ≡ 0
ones_replicate zero = refl
ones_replicate (suc k) = omega (arith, ones_replicate k)

get_d_last : (l : List ℕ) (t v : ℕ) → length l ≡ t → get_or (l ++ v ∷ []) t 0 ≡ v
get_d_last l t v e = rw (← e) (get_or-append_seam l v [] 0)

-- ---- held items

module _ (rs : List Request) (x : Flags) where
  -- the request that keeps a held item is behind
  pub keeper_below : (t i : ℕ) → t ≤ length rs → contents rs x t i ≡ true → prev_to rs t i < t
  keeper_below t i l h =
      let k = sym (held-prev rs x t i l) ∙ h in
      split (ltb (prev_to rs t i) (length rs))
      (λ e. (prev_to_lem rs t i l).below (ltb-true _ _ e))
      (λ e. absurd (false≢true (rw e at k)))

-- what a chart of the first t requests shows of gap t
pub record Shows (rs : List Request) (x : Flags) (w t : ℕ) (busy rows : List ℕ) : Type 0 where
  pub long : length busy ≡ suc max_slots
  pub each : length rows ≡ t
  pub count : ones busy ≡ occupancy rs (contents rs x) t
  pub within : (i : ℕ) → contents rs x t i ≡ true → row_in rs rows t i < w
  pub taken : (i : ℕ) → contents rs x t i ≡ true → get_or busy (row_in rs rows t i) 0 ≡ 1
  pub apart : (i j : ℕ) → contents rs x t i ≡ true → contents rs x t j ≡ true → row_in rs rows t i ≡ row_in rs rows t j → i ≡ j

-- the chart of none
shows_start : (rs : List Request) (x : Flags) (w : ℕ) → Shows rs x w 0 (replicate (suc max_slots) 0) []
shows_start rs x w = record {
  long = length-replicate {A = ℕ} (suc max_slots) 0;
  each = refl;
  count = ones_replicate (suc max_slots) ∙ sym (sum_zero (items rs));
  within = λ i h. absurd (false≢true h);
  taken = λ i h. absurd (false≢true h);
  apart = λ i j h. absurd (false≢true h);
}

-- one request more
module _ {rs : List Request} {x : Flags} {w t : ℕ} {busy rows : List ℕ} (s : Shows rs x w t busy rows) (l : t < length rs) (few : w ≤ max_slots)
    (room : occupancy rs (contents rs x) t ≤ w) (next : occupancy rs (contents rs x) (suc t) ≤ w) where
  abbrev own : ℕ
  own = (request_at rs t).item

  abbrev before : Bool
  before = contents rs x t own

  abbrev place : ℕ
  place = place_for before (get_or rows (prev_of rs t) 0) busy

  -- one row more than there can be slots, so that one is always free
  pub place_low : place ≤ max_slots
  place_low =
      split before
      (λ e. rw e (omega (arith, s.within own e)))
      (λ e. rw e (omega (arith, free_low busy, s.count)))

  -- the row is busy exactly when the item is held before
  place_busy : get_or busy place 0 ≡ cond before 1 0
  place_busy =
      split before
      (λ e. rw e (s.taken own e))
      (λ e. rw e (free_zero busy (omega (arith, free_low busy, s.count, s.long))))

  -- after a fill the row is that of a slot
  place_within : x (suc t) ≡ true → place < w
  place_within a =
      split before
      (λ e. rw e (s.within own e))
      (λ e. let b : ◌≡◌ {A = ℕ} (cond before 1 0) 0 = rw e in
      let k : ◌≡◌ {A = ℕ} (cond (x (suc t)) 1 0) 1 = rw a in
      let f : first_free busy < w = omega (arith, occ-step rs x t l, free_low busy, s.count) in
      rw e f)

  -- another item has another row
  place_other : (i : ℕ) → eqb own i ≡ false → contents rs x t i ≡ true → row_in rs rows t i ≡ place → ⊥
  place_other i n h q =
      split before
      (λ e. let q' : row_in rs rows t i ≡ row_in rs rows t own = rw e at q in eqb-false own i n (sym (s.apart i own h e q')))
      (λ e. let z : ◌≡◌ {A = ℕ} 1 0 = sym (s.taken i h) ∙ ap (λ (k : ℕ). get_or busy k 0) q ∙ place_busy ∙ rw e in omega arith)

  module _ (v : ℕ) where
    -- another item keeps its row
    row_other : (i : ℕ) → eqb own i ≡ false → contents rs x t i ≡ true → row_in rs (rows ++ v ∷ []) (suc t) i ≡ row_in rs rows t i
    row_other i n h = rw n (get_or-append rows (v ∷ []) 0 (prev_to rs t i) (omega (arith, keeper_below rs x t i (omega arith) h, s.each)))

    -- and the request's item has the new one
    row-own : (i : ℕ) → eqb own i ≡ true → row_in rs (rows ++ v ∷ []) (suc t) i ≡ v
    row-own i e = rw e (get_d_last rows t v s.each)

  -- its number, where the item is held after the request
  kept_place : (i : ℕ) → eqb own i ≡ true → x (suc t) ≡ true → row_in rs (rows ++ cond (x (suc t)) place 0 ∷ []) (suc t) i ≡ place
  kept_place i e a = row-own _ i e ∙ rw a

  abbrev rows' : List ℕ
  rows' = rows ++ cond (x (suc t)) place 0 ∷ []

  abbrev busy' : List ℕ
  busy' = set busy place (cond (x (suc t)) 1 0)

  taken_next : (i : ℕ) → contents rs x (suc t) i ≡ true → get_or busy' (row_in rs rows' (suc t) i) 0 ≡ 1
  taken_next i h =
      split (eqb own i)
      (λ e. let a : x (suc t) ≡ true = rw e at h in
      ap (λ (k : ℕ). get_or busy' k 0) (kept_place i e a) ∙ get_or-set_same busy place _ 0 (omega (arith, place_low, s.long)) ∙ rw a)
      (λ e. let b : contents rs x t i ≡ true = rw e at h in
      ap (λ (k : ℕ). get_or busy' k 0) (row_other _ i e b) ∙ get_or-set_other busy place _ _ 0 (place_other i e b) ∙ s.taken i b)

  within_next : (i : ℕ) → contents rs x (suc t) i ≡ true → row_in rs rows' (suc t) i < w
  within_next i h =
      split (eqb own i)
      (λ e. let a : x (suc t) ≡ true = rw e at h in omega (arith, kept_place i e a, place_within a))
      (λ e. let b : contents rs x t i ≡ true = rw e at h in omega (arith, row_other (cond (x (suc t)) place 0) i e b, s.within i b))

  apart_next : (i j : ℕ) → contents rs x (suc t) i ≡ true → contents rs x (suc t) j ≡ true
      → row_in rs rows' (suc t) i ≡ row_in rs rows' (suc t) j → i ≡ j
  apart_next i j h k q =
      split (eqb own i)
      (λ e. let a : x (suc t) ≡ true = rw e at h in
      split (eqb own j)
      (λ d. sym (eqb-true own i e) ∙ eqb-true own j d)
      (λ d. let b : contents rs x t j ≡ true = rw d at k in
      absurd (place_other j d b (sym (row_other _ j d b) ∙ sym q ∙ kept_place i e a))))
      (λ e. let a : contents rs x t i ≡ true = rw e at h in
      split (eqb own j)
      (λ d. let b : x (suc t) ≡ true = rw d at k in
      absurd (place_other i e a (sym (row_other _ i e a) ∙ q ∙ kept_place j d b)))
      (λ d. let b : contents rs x t j ≡ true = rw d at k in
      s.apart i j a b (sym (row_other _ i e a) ∙ q ∙ row_other _ j d b)))

  count_next : ones busy' ≡ occupancy rs (contents rs x) (suc t)
  count_next =
      let k = ones_set busy place (cond (x (suc t)) 1 0) (omega (arith, place_low, s.long)) in
      let a : bit (get_or busy place 0) ≡ cond before 1 0 = ap bit place_busy ∙ bit_cond before in
      omega (arith, k, a, bit_cond (x (suc t)), occ-step rs x t l, s.count)

  pub shows_next : Shows rs x w (suc t) busy' rows'
  shows_next = record {
    long = length-set busy place _ ∙ s.long;
    each = omega (arith, length-append rows (cond (x (suc t)) place 0 ∷ []), s.each);
    count = count_next;
    within = within_next;
    taken = taken_next;
    apart = apart_next;
  }

-- ---- the charts of sound flags

module _ (tr : Trace) (x : Flags) (s : SoundFlags tr x) (few : tr.rules.slots ≤ max_slots) where
  pub chart_shows : (t : ℕ) → t ≤ length tr.reqs
      → Shows tr.reqs x tr.rules.slots t (chart_to tr.reqs x t).busy (chart_to tr.reqs x t).rows
  chart_shows zero l = shows_start tr.reqs x tr.rules.slots
  chart_shows (suc t) l = shows_next (chart_shows t (omega arith)) l few (s.room t (omega arith)) (s.room (suc t) l)

  pub chart_place_low : (t : ℕ) → t < length tr.reqs → place_at tr.reqs x t (chart_to tr.reqs x t) ≤ max_slots
  chart_place_low t l = place_low (chart_shows t (omega arith)) l few (s.room t (omega arith)) (s.room (suc t) l)

-- ---- earlier charts within later ones

module _ (rs : List Request) (x : Flags) where
  -- a row for each request passed
  pub chart_each : (t : ℕ) → length (chart_to rs x t).rows ≡ t
  chart_each zero = refl
  chart_each (suc t) = omega (arith, length-append (chart_to rs x t).rows (cond (x (suc t)) (place_at rs x t (chart_to rs x t)) 0 ∷ []), chart_each t)

  -- a row that is given stays
  pub chart_keeps : (u t p : ℕ) → p < t → t ≤ u → get_or (chart_to rs x u).rows p 0 ≡ get_or (chart_to rs x t).rows p 0
  chart_keeps zero t p l m = absurd (omega arith)
  chart_keeps (suc u) t p l m =
      elim (dec_lt u t) [
        | yes y ↦ let e : suc u ≡ t = omega arith in ap (λ (k : ℕ). get_or (chart_to rs x k).rows p 0) e
        | no y ↦ get_or-append (chart_to rs x u).rows _ 0 p (omega (arith, chart_each u)) ∙ chart_keeps u t p l (omega arith)
      ]

  -- the row of request t
  pub chart_row : (t : ℕ) → get_or (chart_to rs x (suc t)).rows t 0 ≡ cond (x (suc t)) (place_at rs x t (chart_to rs x t)) 0
  chart_row t = get_d_last (chart_to rs x t).rows t _ (chart_each t)
