-- Rents are at most the fill price and one cost, and the start's are at most one cost. Assumes nothing.
use mathlib.Core.Path.{◌≡◌, ◌∙◌, ap}
use Prim.Native.Nat.{ℕ, zero, suc, ◌+◌, ◌-◌, ◌*◌, ◌≤◌, ◌<◌}
use native.Mathlib.Omega.{arith}
use native.Mathlib.Decide.{dec_lt}
use native.Mathlib.Nat.{le_refl}
use mathlib.Core.Bool.{Bool, true, false, cond, false≢true}
use mathlib.Core.List.{List, [], ◌∷◌}
use lib.ListN.{length, drop}
use lib.Dec.{eqb}
use lib.Seq.{drop-cons}
use borrow.Author.Tests.{eqb-true, eqb-false, lt-ltb, le-ltb, not-false}
use Rattle.model.specs.Model.{Request, Trace, items, sum_over}
use Rattle.model.specs.Numbers.{CostsWithin}
use Rattle.model.specs.Plans.{Flags, request_at, contents}
use Rattle.model.proofs.Sums.{split}
use Rattle.model.proofs.Links.{next_is, prev_of_next}
use Rattle.network.specs.Sound.{count, next, missed, struck, reads, after, before, crowd, Sound, Start, costs_all}
use Rattle.network.proofs.Held.{falls, is_drop}
use Rattle.network.proofs.Worths.{start_sound}

-- every request costs at most what all do
pub cost_within : (c : ℕ) (rs : List Request) → CostsWithin c rs → (t : ℕ) → (request_at rs t).cost ≤ c
cost_within c [] h zero = omega arith
cost_within c [] h (suc t) = omega arith
cost_within c (r ∷ rs) h zero = h.0
cost_within c (r ∷ rs) h (suc t) = cost_within c rs h.1 t

cost_by : (w : Bool) (c m : ℕ) → c ≤ m → (cond w 0 c ≤ m) × (cond w c 0 ≤ m)
cost_by true c m h = (omega arith, h)
cost_by false c m h = (h, omega arith)

missed_within : (c : ℕ) (tr : Trace) → CostsWithin c tr.reqs → (t : ℕ) → missed tr t ≤ c
missed_within c tr h t = (cost_by (request_at tr.reqs t).write _ c (cost_within c tr.reqs h t)).0

missed_below : (tr : Trace) (t : ℕ) → missed tr t ≤ (request_at tr.reqs t).cost
missed_below tr t = (cost_by (request_at tr.reqs t).write _ _ (le_refl (request_at tr.reqs t).cost)).0

-- a write misses nothing
write_missed : (tr : Trace) (t : ℕ) → reads tr t ≡ false → missed tr t ≡ 0
write_missed tr t e = rw (not-false (request_at tr.reqs t).write e)

-- ---- who is held

-- a set with an item of the list has one
some_item : (s : ℕ → Bool) (l : List ℕ) → 0 < sum_over l (λ i. cond (s i) 1 0) → (i : ℕ) × (s i ≡ true)
some_item s [] h = absurd (omega arith)
some_item s (i ∷ l) h = split (s i) (λ e. (i, e)) (λ e. some_item s l (omega (arith, rw e at h)))

-- a held item is held since a request before the gap, up to one after it
holder : (tr : Trace) (x : Flags) (g i : ℕ) → g ≤ count tr → contents tr.reqs x g i ≡ true
    → (t : ℕ) × (t < g) × (after x t ≡ true) × ((request_at tr.reqs t).item ≡ i) × (g ≤ next tr t)
holder tr x zero i l h = absurd (false≢true h)
holder tr x (suc g) i l h =
    split (eqb (request_at tr.reqs g).item i)
    (λ e. (g, omega arith, rw e at h, eqb-true _ i e, (next_is tr.reqs g).from))
    (λ e. let (t, m, a, q, u) = holder tr x g i (omega arith) (rw e at h) in (
      t,
      omega arith,
      a,
      q,
      elim (dec_lt g (next tr t)) [
        | yes y ↦ y
        | no y ↦ let z : next tr t ≡ g = omega arith in
            let v = (next_is tr.reqs t).has (omega arith) in
            absurd (eqb-false _ i e ((rw z at v) ∙ q))
      ],
    ))

module _ (tr : Trace) (k : ℕ) (x : Flags) (P Q : ℕ → ℕ) (s : Sound tr k x P Q) (C : ℕ) (costs : CostsWithin C tr.reqs) where
  -- what a held item is worth at a request is little above an empty slot's worth
  held_top : (m t : ℕ) → t < count tr → count tr ≤ t + m → before tr x t ≡ true
      → Q t + missed tr t ≤ P t + tr.rules.fill + C + struck tr t
  held_top zero t l h b = absurd (omega arith)
  held_top (suc m) t l h b =
      split (reads tr t)
      (λ r. omega (arith, s.up t l r, missed_within C tr costs t))
      (λ r. let z = write_missed tr t r in
      split (after x t)
      (λ a. let n = s.linked t a in
      let f = (next_is tr.reqs t).from in
      let p = prev_of_next tr.reqs t n in
      let b' : before tr x (next tr t) ≡ true = rw p a in
      omega (
        arith,
        s.held t l n a,
        held_top m (next tr t) n (omega arith) b',
        falls (count tr) P s.idle t (next tr t) (omega arith) (omega arith),
      ))
      (λ a. omega (arith, s.drops t l (is_drop _ _ b a))))

  -- a slot's worth falls by no more than the fill price and a cost in a gap that holds an item
  pub rents_within : 0 < k → (g : ℕ) → g < count tr → P g - P (suc g) ≤ tr.rules.fill + C
  rents_within z g l =
      elim (dec_lt (crowd tr x g) k) [
        | yes y ↦ omega (arith, s.free g l y)
        | no y ↦
            let (i, h) = some_item (contents tr.reqs x (suc g)) (items tr.reqs) (omega arith) in
            let (t, m, a, q, u) = holder tr x (suc g) i l h in
            let n = s.linked t a in
            let p = prev_of_next tr.reqs t n in
            let b : before tr x (next tr t) ≡ true = rw p a in
            omega (
              arith,
              falls (count tr) P s.idle t g (omega arith) (omega arith),
              falls (count tr) P s.idle (suc g) (next tr t) u (omega arith),
              s.down t (omega arith),
              s.held t (omega arith) n a,
              held_top (count tr) (next tr t) n (omega arith) b,
            )
      ]

-- ---- the start

module _ (tr : Trace) (P Q : ℕ → ℕ) (s : Start tr P Q) (C : ℕ) (costs : CostsWithin C tr.reqs) where
  start_top : (m t : ℕ) → t < count tr → count tr ≤ t + m → Q t ≤ P (suc t) + tr.rules.fill + C
  start_top zero t l h = absurd (omega arith)
  start_top (suc m) t l h =
      let d = start_sound tr P Q s in
      elim (dec_lt (next tr t) (count tr)) [
        | yes n ↦
            let f = (next_is tr.reqs t).from in
            let e = rw (lt-ltb _ _ n) at (s.request t l) in
            let w = falls (count tr) P d.idle (suc t) (next tr t) f (omega arith) in
            split (reads tr (next tr t))
            (λ r. omega (arith, e, w, d.up (next tr t) n r, missed_within C tr costs (next tr t)))
            (λ r. omega (
              arith,
              e,
              w,
              write_missed tr (next tr t) r,
              start_top m (next tr t) n (omega arith),
              d.idle (next tr t) n,
            ))
        | no n ↦ omega (arith, rw (le-ltb (next tr t) (count tr) (omega arith)) at (s.request t l))
      ]

  -- the start's rents are at most one cost
  pub start_rents : (g : ℕ) → g < count tr → P g - P (suc g) ≤ C
  start_rents g l =
      split (reads tr g)
      (λ r. omega (arith, rw r at (s.point g l), start_top (count tr) g l (omega arith)))
      (λ r. omega (arith, rw r at (s.point g l)))

-- ---- how high worths stand at the start

-- the costs of what follows fall
costs_fall : (rs : List Request) (t : ℕ) → t < length rs → costs_all (drop t rs) ≡ (request_at rs t).cost + costs_all (drop (suc t) rs)
costs_fall rs t l = ap costs_all (drop-cons rs t _ l)

costs_later : (rs : List Request) (t u : ℕ) → t ≤ u → u ≤ length rs → costs_all (drop u rs) ≤ costs_all (drop t rs)
costs_later rs t u l m =
    falls (length rs) (λ g. costs_all (drop g rs)) (λ g h. omega (arith, costs_fall rs g h)) t u l m

-- costs of at most C each
pub costs_top : (C : ℕ) (rs : List Request) → CostsWithin C rs → costs_all rs ≤ length rs * C
costs_top C [] h = omega arith
costs_top C (r ∷ rs) h = omega (arith, h.0, costs_top C rs h.1)

module _ (tr : Trace) (P Q : ℕ → ℕ) (s : Start tr P Q) where
  -- an empty slot is worth at most the costs of the requests to come, and a held item the fill price more than those after it
  start_low : (m t : ℕ) → t ≤ count tr → count tr ≤ t + m
      → (P t ≤ costs_all (drop t tr.reqs)) × (t < count tr → Q t ≤ tr.rules.fill + costs_all (drop (suc t) tr.reqs))
  start_low zero t l h =
      let e : t ≡ count tr = omega arith in (rw e (omega (arith, s.last)), (λ z. absurd (omega arith)))
  start_low (suc m) t l h =
      elim (dec_lt t (count tr)) [
        | no y ↦ let e : t ≡ count tr = omega arith in (rw e (omega (arith, s.last)), (λ z. absurd (omega arith)))
        | yes y ↦
            let p = (start_low m (suc t) y (omega arith)).0 in
            let f = costs_fall tr.reqs t y in
            let q : Q t ≤ tr.rules.fill + costs_all (drop (suc t) tr.reqs) =
            elim (dec_lt (next tr t) (count tr)) [
              | yes n ↦
                  let from = (next_is tr.reqs t).from in
                  omega (
                    arith,
                    p,
                    rw (lt-ltb _ _ n) at (s.request t y),
                    (start_low m (next tr t) (omega arith) (omega arith)).1 n,
                    missed_below tr (next tr t),
                    costs_fall tr.reqs (next tr t) n,
                    costs_later tr.reqs (suc t) (next tr t) from (omega arith),
                  )
              | no n ↦ omega (arith, p, rw (le-ltb (next tr t) (count tr) (omega arith)) at (s.request t y))
            ] in (
              split (reads tr t) (λ r. omega (arith, p, q, f, rw r at (s.point t y))) (λ r. omega (arith, p, f, rw r at (s.point t y))),
              (λ z. q),
            )
      ]

  -- at the start an empty slot is worth at most what all requests cost
  pub start_point_top : (g : ℕ) → g ≤ count tr → P g ≤ costs_all tr.reqs
  start_point_top g l =
      omega (arith, (start_low (count tr) g l (omega arith)).0, costs_later tr.reqs 0 g (omega arith) l)

  -- and a held item at most the fill price more
  pub start_request_top : (t : ℕ) → t < count tr → Q t ≤ tr.rules.fill + costs_all tr.reqs
  start_request_top t l =
      omega (arith, (start_low (count tr) t (omega arith) (omega arith)).1 l, costs_later tr.reqs 0 (suc t) (omega arith) l)
