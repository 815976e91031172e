-- The ways of length 0, and whether one of them leads into a set of nodes from outside: looked for request by request. Assumes nothing.
use mathlib.Core.Path.{◌≡◌, refl, sym, ◌∙◌}
use Prim.Native.Nat.{ℕ, zero, suc, ◌+◌, ◌<◌}
use native.Mathlib.Omega.{arith}
use native.Mathlib.Decide.{dec_lt, ℕ_discrete}
use mathlib.Core.Bool.{true, false, Bool-discrete, false≢true}
use mathlib.Core.Logic.Dec
use mathlib.Core.Logic.{◌⊎◌, inl, inr, ⊎_elim}
use Rattle.model.specs.Model.{Trace}
use Rattle.model.specs.Plans.{Flags}
use Rattle.model.proofs.Sums.{split}
use Rattle.network.specs.Sound.{count, next, missed, struck, reads, after, fills_at, drops_at, crowd, node, Residual, idle, unidle, undrop, fill, unfill, drop, hold, unhold}
use Rattle.network.proofs.Closure.{Ways, Reached, Enters, Closed}

-- the ways of length 0
abbrev pub Tight : (tr : Trace) → (k : ℕ) → Flags → (P Q : ℕ → ℕ) → Ways
Tight tr k x P Q v u = Residual tr k x P Q v u 0

-- ---- looking, one thing after another

-- at one of the numbers below n something is found, or nothing is at any
look_below : (n : ℕ) (A : Type 0) (B : ℕ → Type 0) → ((t : ℕ) → t < n → A ⊎ B t) → A ⊎ ((t : ℕ) → t < n → B t)
look_below zero A B f = inr (λ t l. absurd (omega arith))
look_below (suc n) A B f =
    ⊎_elim
    (λ a. inl a)
    (λ b. ⊎_elim
    (λ a. inl a)
    (λ c. inr (λ t l. elim (dec_lt t n) [
      | yes y ↦ b t y
      | no y ↦ let q : n ≡ t = omega arith in rw q at c
    ]))
    (f n (omega arith)))
    (look_below n A B (λ t l. f t (omega arith)))

-- something is found here or there, or nothing is at either
look_both : {A B C : Type 0} → A ⊎ B → A ⊎ C → A ⊎ (B × C)
look_both (inl a) c = inl a
look_both (inr b) (inl a) = inl a
look_both (inr b) (inr c) = inr (b, c)

module _ (tr : Trace) (k : ℕ) (x : Flags) (P Q : ℕ → ℕ) (R : Reached) where
  -- where C holds, the set that has u has v
  abbrev Keeps : (C : Type 0) → (v u : ℕ) → Type 0
  Keeps C v u = C → R u ≡ true → R v ≡ true

  -- a way that is there where C holds enters the set, or the set has its start where it has its end
  look_way : (C : Type 0) (v u : ℕ) → Dec C → (C → Tight tr k x P Q v u) → Enters (Tight tr k x P Q) R ⊎ Keeps C v u
  look_way C v u (no n) way = inr (λ c i. absurd (n c))
  look_way C v u (yes c) way =
      split (R v)
      (λ e. inr (λ c i. e))
      (λ e. split (R u)
      (λ i. inl (record { v = v; u = u; way = way c; outside = e; within = i }))
      (λ f. inr (λ c i. absurd (false≢true (sym f ∙ i)))))

  -- when each kind of way of length 0 is there, at a request or a gap that is one of the trace's
  abbrev Idle : ℕ → Type 0
  Idle t = P t ≡ P (suc t) + 0

  abbrev Fill : ℕ → Type 0
  Fill t = (reads tr t ≡ true) × ((drops_at tr x t ≡ false) × (P t + tr.rules.fill ≡ Q t + 0))

  abbrev Drop : ℕ → Type 0
  Drop t = (fills_at tr x t ≡ false) × (Q t ≡ P t + 0)

  abbrev Hold : ℕ → Type 0
  Hold t = (next tr t < count tr) × ((after x t ≡ false) × (Q t + struck tr (next tr t) ≡ Q (next tr t) + missed tr (next tr t) + 0))

  abbrev Unhold : ℕ → Type 0
  Unhold t = (next tr t < count tr) × ((after x t ≡ true) × (Q (next tr t) + missed tr (next tr t) ≡ Q t + struck tr (next tr t) + 0))

  -- the set has the start of every way of request t and of gap t whose end it has
  pub record KeepsAt (t : ℕ) : Type 0 where
    pub idles : Keeps (Idle t) t (suc t)
    pub unidles : Keeps (crowd tr x t < k) (suc t) t
    pub undrops : Keeps (drops_at tr x t ≡ true) t (node tr t)
    pub fills : Keeps (Fill t) t (node tr t)
    pub unfills : Keeps (fills_at tr x t ≡ true) (node tr t) t
    pub drops : Keeps (Drop t) (node tr t) t
    pub holds : Keeps (Hold t) (node tr t) (node tr (next tr t))
    pub unholds : Keeps (Unhold t) (node tr (next tr t)) (node tr t)

  look_at : (t : ℕ) → t < count tr → Enters (Tight tr k x P Q) R ⊎ KeepsAt t
  look_at t l =
      ⊎_elim
      (λ e. inl e)
      (λ ((a, b), ((c, d), ((e, f), (g, h)))). inr (record {
        idles = a;
        unidles = b;
        undrops = c;
        fills = d;
        unfills = e;
        drops = f;
        holds = g;
        unholds = h;
      }))
      (look_both
      (look_both
      (look_way (Idle t) t (suc t) (ℕ_discrete _ _) (λ c. idle t 0 l c))
      (look_way (crowd tr x t < k) (suc t) t (dec_lt _ _) (λ c. unidle t l c)))
      (look_both
      (look_both
      (look_way (drops_at tr x t ≡ true) t (node tr t) (Bool-discrete _ _) (λ c. undrop t l c))
      (look_way (Fill t) t (node tr t) (Dec.and (Bool-discrete _ _) (Dec.and (Bool-discrete _ _) (ℕ_discrete _ _)))
      (λ c. fill t 0 l c.0 c.1.0 c.1.1)))
      (look_both
      (look_both
      (look_way (fills_at tr x t ≡ true) (node tr t) t (Bool-discrete _ _) (λ c. unfill t l c))
      (look_way (Drop t) (node tr t) t (Dec.and (Bool-discrete _ _) (ℕ_discrete _ _)) (λ c. drop t 0 l c.0 c.1)))
      (look_both
      (look_way (Hold t) (node tr t) (node tr (next tr t)) (Dec.and (dec_lt _ _) (Dec.and (Bool-discrete _ _) (ℕ_discrete _ _)))
      (λ c. hold t 0 l c.0 c.1.0 c.1.1))
      (look_way (Unhold t) (node tr (next tr t)) (node tr t) (Dec.and (dec_lt _ _) (Dec.and (Bool-discrete _ _) (ℕ_discrete _ _)))
      (λ c. unhold t 0 l c.0 c.1.0 c.1.1))))))

  closed_by : ((t : ℕ) → t < count tr → KeepsAt t) → (v u len : ℕ) → Residual tr k x P Q v u len → len ≡ 0 → R u ≡ true → R v ≡ true
  closed_by h v u len (idle t m l e) z = (h t l).idles (rw z at e)
  closed_by h v u len (unidle t l c) z = (h t l).unidles c
  closed_by h v u len (undrop t l c) z = (h t l).undrops c
  closed_by h v u len (fill t m l r c e) z = (h t l).fills (r, (c, rw z at e))
  closed_by h v u len (unfill t l c) z = (h t l).unfills c
  closed_by h v u len (drop t m l c e) z = (h t l).drops (c, rw z at e)
  closed_by h v u len (hold t m l n a e) z = (h t l).holds (n, (a, rw z at e))
  closed_by h v u len (unhold t m l n a e) z = (h t l).unholds (n, (a, rw z at e))

  -- a way of length 0 leads into the set from outside, or none does
  pub look_ways : Enters (Tight tr k x P Q) R ⊎ Closed (Tight tr k x P Q) R
  look_ways =
      ⊎_elim
      (λ e. inl e)
      (λ h. inr (λ v u w i. closed_by h v u 0 w refl i))
      (look_below (count tr) (Enters (Tight tr k x P Q) R) KeepsAt look_at)
