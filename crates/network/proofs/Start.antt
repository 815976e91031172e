-- Every trace has the worths of the start: they are told from the last request back, one request at a time. Assumes nothing.
use mathlib.Core.Path.{◌≡◌, refl}
use Prim.Native.Nat.{ℕ, zero, suc, ◌+◌, ◌-◌, ◌≤◌, ◌<◌, max}
use native.Mathlib.Omega.{arith}
use native.Mathlib.Decide.{dec_lt}
use mathlib.Core.Bool.{cond}
use lib.Dec.{eqb}
use borrow.Author.Tests.{eq-eqb, ne_eqb}
use Rattle.model.specs.Model.{Trace}
use Rattle.model.proofs.Links.{next_is}
use Rattle.network.specs.Sound.{count, next, reads, ahead, Start}

-- a function with the value v at the number a
abbrev pub put : {A : Type 0} → (ℕ → A) → (a : ℕ) → (v : A) → ℕ → A
put f a v s = cond (eqb s a) v (f s)

-- the worths of the start for the last m requests
pub record StartFrom (tr : Trace) (m : ℕ) (P Q : ℕ → ℕ) : Type 0 where
  pub last : P (count tr) ≡ 0
  pub request : (t : ℕ) → t < count tr → count tr ≤ t + m → Q t ≡ max (P (suc t)) (ahead tr Q t)
  pub point : (t : ℕ) → t < count tr → count tr ≤ t + m
      → P t ≡ cond (reads tr t) (max (P (suc t)) (Q t - tr.rules.fill)) (P (suc t))

module _ (tr : Trace) (P Q : ℕ → ℕ) (a : ℕ) where
  -- the worths of request a and of the point before it, from the worths after them
  abbrev pub request_worth : ℕ
  request_worth = max (P (suc a)) (ahead tr Q a)

  abbrev pub point_worth : ℕ
  point_worth = cond (reads tr a) (max (P (suc a)) (request_worth - tr.rules.fill)) (P (suc a))

  -- what lies ahead of a later request does not look at request a
  ahead_put : (q t : ℕ) → a ≤ t → ahead tr (put Q a q) t ≡ ahead tr Q t
  ahead_put q t l = rw (ne_eqb (next tr t) a (λ e. omega (arith, (next_is tr.reqs t).from)))

  -- one request more
  start_before : (m : ℕ) → a + suc m ≡ count tr → StartFrom tr m P Q
      → StartFrom tr (suc m) (put P a point_worth) (put Q a request_worth)
  start_before m e s = record {
    last = rw (ne_eqb (count tr) a (λ z. omega arith)) s.last;
    request = λ t l h. elim (dec_lt a t) [
      | yes y ↦ rw (ne_eqb t a (λ z. omega arith), ne_eqb (suc t) a (λ z. omega arith), ahead_put request_worth t (omega arith))
          (s.request t l (omega arith))
      | no y ↦ let q : t ≡ a = omega arith in
          rw (q, eq-eqb a a refl, ne_eqb (suc a) a (λ z. omega arith), ahead_put request_worth a (omega arith))
    ];
    point = λ t l h. elim (dec_lt a t) [
      | yes y ↦ rw (ne_eqb t a (λ z. omega arith), ne_eqb (suc t) a (λ z. omega arith)) (s.point t l (omega arith))
      | no y ↦ let q : t ≡ a = omega arith in
          rw (q, eq-eqb a a refl, ne_eqb (suc a) a (λ z. omega arith))
    ];
  }

start_from : (tr : Trace) (m : ℕ) → m ≤ count tr → (P : ℕ → ℕ) × (Q : ℕ → ℕ) × StartFrom tr m P Q
start_from tr zero l =
    ((λ g. 0), (λ t. 0), record { last = refl; request = λ t i h. absurd (omega arith); point = λ t i h. absurd (omega arith) })
start_from tr (suc m) l =
    let (P, Q, s) = start_from tr m (omega arith) in
    let a = count tr - suc m in
    (put P a (point_worth tr P Q a), put Q a (request_worth tr P Q a), start_before tr P Q a m (omega arith) s)

-- there are worths of the start
pub start_exists : (tr : Trace) → (P : ℕ → ℕ) × (Q : ℕ → ℕ) × Start tr P Q
start_exists tr =
    let (P, Q, s) = start_from tr (count tr) (omega arith) in
    (P, Q, record { last = s.last; request = λ t l. s.request t l (omega arith); point = λ t l. s.point t l (omega arith) })
