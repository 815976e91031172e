-- A slot more on one step: the balance of every node is kept when the node at which the slot stands moves along the step, or back.
-- Assumes nothing.
use mathlib.Core.Path.{◌≡◌, refl, sym, ◌∙◌, ap}
use Prim.Native.Nat.{ℕ, zero, suc, ◌+◌, ◌≤◌, ◌<◌}
use native.Mathlib.Omega.{arith}
use mathlib.Core.Bool.{Bool, true, false, cond}
use lib.Dec.{eqb}
use borrow.Author.Tests.{eqb-true, eqb-false, eq-eqb, ne_eqb}
use Rattle.model.specs.Model.{Trace}
use Rattle.model.specs.Links.{prev_of}
use Rattle.model.proofs.Sums.{split}
use Rattle.model.proofs.Links.{prev_of_next, next_of_prev}
use Rattle.network.specs.Sound.{count, next, node}
use Rattle.network.specs.Ways.{Arc, idling, filling, dropping, holding, Flow, src, dst, Is, on, inflow, Balanced}

-- whether two steps are the same
abbrev pub same : Arc → Arc → Bool
same (idling s) (idling t) = eqb s t
same (idling s) (filling t) = false
same (idling s) (dropping t) = false
same (idling s) (holding t) = false
same (filling s) (idling t) = false
same (filling s) (filling t) = eqb s t
same (filling s) (dropping t) = false
same (filling s) (holding t) = false
same (dropping s) (idling t) = false
same (dropping s) (filling t) = false
same (dropping s) (dropping t) = eqb s t
same (dropping s) (holding t) = false
same (holding s) (idling t) = false
same (holding s) (filling t) = false
same (holding s) (dropping t) = false
same (holding s) (holding t) = eqb s t

pub same_eq : (a b : Arc) → same a b ≡ true → a ≡ b
same_eq (idling s) (idling t) e = ap idling (eqb-true s t e)
same_eq (idling s) (filling t) e = cc
same_eq (idling s) (dropping t) e = cc
same_eq (idling s) (holding t) e = cc
same_eq (filling s) (idling t) e = cc
same_eq (filling s) (filling t) e = ap filling (eqb-true s t e)
same_eq (filling s) (dropping t) e = cc
same_eq (filling s) (holding t) e = cc
same_eq (dropping s) (idling t) e = cc
same_eq (dropping s) (filling t) e = cc
same_eq (dropping s) (dropping t) e = ap dropping (eqb-true s t e)
same_eq (dropping s) (holding t) e = cc
same_eq (holding s) (idling t) e = cc
same_eq (holding s) (filling t) e = cc
same_eq (holding s) (dropping t) e = cc
same_eq (holding s) (holding t) e = ap holding (eqb-true s t e)

-- g is f with one slot more on step a
abbrev pub Bumped : (f g : Flow) → Arc → Type 0
Bumped f g a = (b : Arc) → g b ≡ f b + cond (same a b) 1 0

-- ---- where numbers are the same

pub on_zero : (a b : ℕ) → (a ≡ b → ⊥) → on a b ≡ 0
on_zero a b h = rw (ne_eqb a b h)

pub on_like : (a b c d : ℕ) → (a ≡ b → c ≡ d) → (c ≡ d → a ≡ b) → on a b ≡ on c d
on_like a b c d h k =
    split (eqb a b)
    (λ e. rw (e, eq-eqb c d (h (eqb-true a b e))))
    (λ e. rw (e, ne_eqb c d (λ q. eqb-false a b e (k q))))

-- what comes to a point is what idled before it
came : (m : ℕ) (f g : Flow) → ((q : ℕ) → g (idling q) ≡ f (idling q) + 0) → (p : ℕ) → inflow m g p ≡ inflow m f p
came m f g h zero = refl
came m f g h (suc p) = omega (arith, h p)

module _ (tr : Trace) where
  -- a request's node is no point
  no_point : (t g : ℕ) → g ≤ count tr → (on (node tr t) g ≡ 0) × (on g (node tr t) ≡ 0)
  no_point t g l = (on_zero (node tr t) g (λ e. omega arith), on_zero g (node tr t) (λ e. omega arith))

  one_node : (t s : ℕ) → on (node tr t) (node tr s) ≡ on s t
  one_node t s = on_like (node tr t) (node tr s) s t (λ e. omega arith) (λ e. omega arith)

  -- request t comes next after s just where s comes last before t
  next_node : (s t : ℕ) → s < count tr → next tr s < count tr → t < count tr
      → on (node tr t) (node tr (next tr s)) ≡ on s (prev_of tr.reqs t)
  next_node s t l n m =
      on_like (node tr t) (node tr (next tr s)) s (prev_of tr.reqs t)
      (λ e. let q : next tr s ≡ t = omega arith in sym (prev_of_next tr.reqs s n) ∙ ap (prev_of tr.reqs) q)
      (λ e. let p : prev_of tr.reqs t < count tr = omega arith in
      let k = (next_of_prev tr.reqs t m p).1 in
      let j : next tr s ≡ t = ap (next tr) e ∙ k in omega arith)

  -- a slot more on a step changes the balance of a request by where the step leaves and arrives
  at_request : (f g : Flow) (a : Arc) → Is tr a → Bumped f g a → (t : ℕ) → t < count tr
      → g (holding (prev_of tr.reqs t)) + g (filling t) + (f (holding t) + f (dropping t)) + on (node tr t) (src tr a)
      ≡ f (holding (prev_of tr.reqs t)) + f (filling t) + (g (holding t) + g (dropping t)) + on (node tr t) (dst tr a)
  at_request f g (idling h) i b t l =
      omega (
        arith,
        b (holding (prev_of tr.reqs t)),
        b (filling t),
        b (holding t),
        b (dropping t),
        (no_point t h (omega arith)).0,
        (no_point t (suc h) i).0,
      )
  at_request f g (filling s) i b t l =
      omega (
        arith,
        b (holding (prev_of tr.reqs t)),
        b (filling t),
        b (holding t),
        b (dropping t),
        (no_point t s (omega (arith, i.0))).0,
        one_node t s,
      )
  at_request f g (dropping s) i b t l =
      omega (
        arith,
        b (holding (prev_of tr.reqs t)),
        b (filling t),
        b (holding t),
        b (dropping t),
        (no_point t s (omega arith)).0,
        one_node t s,
      )
  at_request f g (holding s) i b t l =
      omega (
        arith,
        b (holding (prev_of tr.reqs t)),
        b (filling t),
        b (holding t),
        b (dropping t),
        one_node t s,
        next_node s t i.0 i.1 l,
      )

  -- and of a point
  at_point : (m : ℕ) (f g : Flow) (a : Arc) → Is tr a → Bumped f g a → (p : ℕ) → p < count tr
      → inflow m g p + g (dropping p) + (f (idling p) + f (filling p)) + on p (src tr a)
      ≡ inflow m f p + f (dropping p) + (g (idling p) + g (filling p)) + on p (dst tr a)
  at_point m f g (idling h) i b zero l =
      omega (
        arith,
        b (idling 0),
        b (filling 0),
        b (dropping 0),
        on_like 0 h h 0 sym sym,
        on_zero 0 (suc h) (λ e. omega arith),
      )
  at_point m f g (idling h) i b (suc p) l =
      omega (
        arith,
        b (idling p),
        b (idling (suc p)),
        b (filling (suc p)),
        b (dropping (suc p)),
        on_like (suc p) h h (suc p) sym sym,
        on_like (suc p) (suc h) h p (λ e. omega arith) (λ e. omega arith),
      )
  at_point m f g (filling s) i b p l =
      omega (
        arith,
        came m f g (λ q. b (idling q)) p,
        b (idling p),
        b (filling p),
        b (dropping p),
        on_like p s s p sym sym,
        (no_point s p (omega arith)).1,
      )
  at_point m f g (dropping s) i b p l =
      omega (
        arith,
        came m f g (λ q. b (idling q)) p,
        b (idling p),
        b (filling p),
        b (dropping p),
        on_like p s s p sym sym,
        (no_point s p (omega arith)).1,
      )
  at_point m f g (holding s) i b p l =
      omega (
        arith,
        came m f g (λ q. b (idling q)) p,
        b (idling p),
        b (filling p),
        b (dropping p),
        (no_point s p (omega arith)).1,
        (no_point (next tr s) p (omega arith)).1,
      )

  -- the slot goes along the step
  pub balanced_ahead : (m : ℕ) (f g : Flow) (a : Arc) → Is tr a → Bumped f g a → Balanced tr m (src tr a) f → Balanced tr m (dst tr a) g
  balanced_ahead m f g a i b p = record {
    requests = λ t l. omega (arith, p.requests t l, at_request f g a i b t l);
    points = λ q l. omega (arith, p.points q l, at_point m f g a i b q l);
  }

  -- the slot goes back along the step
  pub balanced_behind : (m : ℕ) (f g : Flow) (a : Arc) → Is tr a → Bumped f g a → Balanced tr m (dst tr a) g → Balanced tr m (src tr a) f
  balanced_behind m f g a i b p = record {
    requests = λ t l. omega (arith, p.requests t l, at_request f g a i b t l);
    points = λ q l. omega (arith, p.points q l, at_point m f g a i b q l);
  }
