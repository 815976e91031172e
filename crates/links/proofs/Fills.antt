-- The lists are filled: what stands in them is each request's next and previous request. Assumes nothing.
use mathlib.Core.Path.{◌≡◌, sym, ◌∙◌, ap}
use mathlib.Core.Logic.{⊎_elim}
use Prim.Native.Nat.{ℕ, suc, ◌<◌}
use native.Mathlib.Omega.{arith}
use native.Mathlib.Decide.{dec_lt}
use mathlib.Core.List.{List}
use lib.ListN.{length, get_or}
use lib.Seq.{ext_get_or}
use Rattle.model.specs.Model.{Request}
use Rattle.model.specs.Plans.{request_at}
use Rattle.model.specs.Links.{next_of, prev_of, listed}
use Rattle.model.proofs.Links.{is_next, prev_is, prev_of_next, next_of_prev, length-listed, get_d_listed}
use Rattle.links.specs.Chains.{First, item_in, Nexts, Undoes}

-- a list of n places that have f's values
pub front : (f : ℕ → ℕ) (n : ℕ) (new : List ℕ) → length new ≡ n → ((t : ℕ) → t < n → get_or new t 0 ≡ f t) → new ≡ listed f n 0
front f n new long on =
    ext_get_or 0 new (listed f n 0) (long ∙ sym (length-listed f n 0))
    (λ i h. let m : i < n = omega arith in on i m ∙ sym (get_d_listed f n 0 i 0 m ∙ ap f (omega arith)))

module _ (items next : List ℕ) (n : ℕ) (w : Nexts items next n 0) where
  passed-over : (s t : ℕ) → s < t → t < n → get_or next s 0 ≡ get_or next t 0 → get_or next t 0 < n → ⊥
  passed-over s t l b e m =
      let f = w.on s (omega arith) (omega arith) in
      let g = w.on t (omega arith) b in
      f.none t l (omega (arith, g.from)) (sym (g.has m) ∙ sym (ap (item_in items) e) ∙ f.has (omega arith))

  -- no request is the next of two
  pub next-of-one : (s t : ℕ) → s < n → t < n → get_or next s 0 ≡ get_or next t 0 → get_or next t 0 < n → s ≡ t
  next-of-one s t a b e m =
      elim (dec_lt s t) [
        | yes y ↦ absurd (passed-over s t y b e m)
        | no y ↦ elim (dec_lt t s) [
          | yes z ↦ absurd (passed-over t s z a (sym e) (omega arith))
          | no z ↦ omega arith
        ]
      ]

module _ (rs : List Request) (items : List ℕ) (n : ℕ) (all : length rs ≡ n)
    (same : (t : ℕ) → t < n → item_in items t ≡ (request_at rs t).item) where
  -- the first request of t's item after t is the next
  pub first_next : (t m : ℕ) → t < n → First (item_in items) n (item_in items t) (suc t) m → m ≡ next_of rs t
  first_next t m l f = sym (is_next rs t m (record {
    from = f.from;
    upto = omega (arith, f.upto);
    has = λ h. let k : m < n = omega arith in sym (same m k) ∙ f.has k ∙ same t l;
    none = λ s a b e. let k : s < n = omega (arith, f.upto) in f.none s a b (same s k ∙ e ∙ sym (same t l));
  }))

  module _ (next : List ℕ) (w : Nexts items next n 0) where
    pub nexts-are : (t : ℕ) → t < n → get_or next t 0 ≡ next_of rs t
    nexts-are t l = first_next t (get_or next t 0) l (w.on t (omega arith) l)

    -- what the next request of t undoes
    undone : (t : ℕ) → t < n → get_or next t 0 < n → prev_of rs (get_or next t 0) ≡ t
    undone t l m = let e = nexts-are t l in rw e (prev_of_next rs t (omega arith))

    pub prevs-are : (prev : List ℕ) → Undoes next prev n n → (t : ℕ) → t < n → get_or prev t 0 ≡ prev_of rs t
    prevs-are prev u t l =
        elim (dec_lt (prev_of rs t) n) [
          | yes y ↦ let k = next_of_prev rs t (omega arith) (omega arith) in
              let e : get_or next (prev_of rs t) 0 ≡ t = nexts-are (prev_of rs t) y ∙ k.1 in
              let b = u.back (prev_of rs t) y (omega arith) in
              (rw e at b)
          | no y ↦ let top = (prev_is rs t (omega arith)).upto in
              ⊎_elim
              (λ e. omega arith)
              (λ k. let q : get_or next (get_or prev t 0) 0 ≡ t = k.1 in
              sym (undone (get_or prev t 0) k.0 (omega arith)) ∙ ap (prev_of rs) q)
              (u.else t l)
        ]
