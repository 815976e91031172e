-- What stands at each place of the lists of sources, of charges and of lengths, and that a way comes from a node. Assumes nothing.
use mathlib.Core.Path.{◌≡◌, sym, ◌∙◌, ap}
use Prim.Native.Nat.{ℕ, zero, suc, ◌+◌, ◌*◌, ◌-◌, ◌≤◌, ◌<◌}
use native.Mathlib.Omega.{arith}
use mathlib.Core.Bool.{cond}
use mathlib.Core.List.{List, ◌++◌}
use lib.ListN.{length, get_or, drop}
use lib.Dec.{ltb, eqb}
use borrow.Author.Tests.{ltb-true, ltb-false, le-ltb, lt-ltb}
use Rattle.model.proofs.Sums.{split}
use Rattle.trace.specs.TraceFile.{requests_at}
use Rattle.ways.specs.Ways.{point_source, request_source, source_by, charge_at, length_by, behind_of, held_by}
use Rattle.ways.specs.Promise.{rows, listed, laid_of, Sourced, Charged, Measured}
use Rattle.ways.proofs.Rows.{row_at, listed_at}

-- what stands at each place of a list of rows
laid_at : (n : ℕ) (f : ℕ → ℕ → ℕ) (l l' : List ℕ) → l' ≡ laid_of n f l → n ≤ 1024 → (u kind : ℕ) → u < suc (2 * n) → kind < 3
    → get_or l' (3 * u + kind) 0 ≡ f u kind
laid_at n f l l' p few u kind h m =
    let z : 0 + u ≡ u = omega arith in
    let e : l' ≡ rows f (suc (2 * n)) 0 ++ drop (3 * suc (2 * n)) l = rw (le-ltb 1024 n few) at p in
    rw e (row_at f (suc (2 * n)) 0 u kind (drop (3 * suc (2 * n)) l) h m ∙ ap (λ (v : ℕ). f v kind) z)

-- ---- sources

module _ {n : ℕ} {next prev from from' : List ℕ} (s : Sourced n next prev from from') where
  -- the source of each way stands at its place
  pub source_at : n ≤ 1024 → (u kind : ℕ) → u < suc (2 * n) → kind < 3 → get_or from' (3 * u + kind) 0 ≡ source_by n next prev u kind
  source_at few u kind h l = laid_at n (source_by n next prev) from from' s.laid few u kind h l

  -- the list is as long as before
  pub sources_long : length from' ≡ length from
  sources_long = s.long

  -- any two answers that the promise permits coincide
  pub sourced_unique : {other : List ℕ} → Sourced n next prev from other → from' ≡ other
  sourced_unique o = s.laid ∙ sym o.laid

point_inside : (n g kind : ℕ) → g ≤ n → point_source n g kind < suc (2 * n)
point_inside n g zero h =
    split (ltb g n) (λ e. rw e (omega (arith, ltb-true g n e))) (λ e. rw e (omega arith))
point_inside n g (suc zero) h =
    split (ltb g n) (λ e. rw e (omega (arith, ltb-true g n e))) (λ e. rw e (omega arith))
point_inside n g (suc (suc kind)) h = omega arith

other_inside : (n s t : ℕ) → t < n → n + 1 + cond (ltb s n) s t < suc (2 * n)
other_inside n s t h = split (ltb s n) (λ e. rw e (omega (arith, ltb-true s n e))) (λ e. rw e (omega arith))

request_inside : (n : ℕ) (next prev : List ℕ) (t kind : ℕ) → t < n → request_source n next prev t kind < suc (2 * n)
request_inside n next prev t zero h = other_inside n (get_or next t 0) t h
request_inside n next prev t (suc zero) h = other_inside n (get_or prev t 0) t h
request_inside n next prev t (suc (suc kind)) h = omega arith

-- a way into a node comes from a node
pub source_inside : (n : ℕ) (next prev : List ℕ) (u kind : ℕ) → u < suc (2 * n) → source_by n next prev u kind < suc (2 * n)
unfolding source_by
source_inside n next prev u kind h =
    split (ltb n u)
    (λ e. rw e (request_inside n next prev (u - (n + 1)) kind (omega (arith, ltb-true n u e))))
    (λ e. rw e (point_inside n u kind (omega (arith, ltb-false n u e))))

-- ---- charges

module _ {tr old new : List ℕ} (c : Charged tr old new) where
  -- the charge of each request stands at its place
  pub charge_stored : requests_at tr ≤ 1024 → (t : ℕ) → t < requests_at tr → get_or new t 0 ≡ charge_at tr t
  charge_stored few t h =
      let z : 0 + t ≡ t = omega arith in
      let e : new ≡ listed (charge_at tr) (requests_at tr) 0 ++ drop (requests_at tr) old = rw (le-ltb 1024 (requests_at tr) few) at c.laid in
      rw e (listed_at (charge_at tr) (requests_at tr) 0 t (drop (requests_at tr) old) h ∙ ap (λ (v : ℕ). charge_at tr v) z)

  -- the list is as long as before
  pub charges_long : length new ≡ length old
  charges_long = c.long

  -- any two answers that the promise permits coincide
  pub charged_unique : {other : List ℕ} → Charged tr old other → new ≡ other
  charged_unique o = c.laid ∙ sym o.laid

-- ---- lengths

module _ {n fill k : ℕ} {from charges flags worth len len' : List ℕ} (m : Measured n fill k from charges flags worth len len') where
  -- the length of each way stands at its place
  pub length_at : n ≤ 1024 → (u kind : ℕ) → u < suc (2 * n) → kind < 3
      → get_or len' (3 * u + kind) 0 ≡ length_by n fill k from charges flags worth u kind
  length_at few u kind h l = laid_at n (length_by n fill k from charges flags worth) len len' m.laid few u kind h l

  -- the list is as long as before
  pub lengths_long : length len' ≡ length len
  lengths_long = m.long

  -- any two answers that the promise permits coincide
  pub measured_unique : {other : List ℕ} → Measured n fill k from charges flags worth len other → len' ≡ other
  measured_unique o = m.laid ∙ sym o.laid

-- ---- what is held

module _ (flags from : List ℕ) (n t b : ℕ) (same : b ≡ behind_of from n t) where
  -- whether an item is held before a request is the flag of its previous request
  pub held_is : n < b → b < n + 1 + t → eqb (get_or flags (b - (n + 1)) 0) 1 ≡ held_by flags from n t
  held_is h l = rw (← same, lt-ltb n b h, lt-ltb b (n + 1 + t) l)
