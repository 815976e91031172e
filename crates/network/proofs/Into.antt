-- The ways into a node, as a search back from the last point meets them, and the nodes that there are. Assumes nothing.
use mathlib.Core.Path.{◌≡◌, refl, sym, ◌∙◌, ap}
use Prim.Native.Nat.{ℕ, suc, ◌+◌, ◌≤◌, ◌<◌}
use native.Mathlib.Omega.{arith}
use mathlib.Core.Bool.{true, false}
use Rattle.model.specs.Model.{Trace}
use Rattle.model.specs.Plans.{Flags}
use Rattle.model.specs.Links.{prev_of}
use Rattle.model.proofs.Links.{prev_of_next}
use Rattle.network.specs.Sound.{count, next, missed, struck, reads, after, fills_at, drops_at, crowd, node, Residual, idle, unidle, undrop, fill, unfill, drop, hold, unhold}

module _ (tr : Trace) (k : ℕ) (x : Flags) (P Q : ℕ → ℕ) where
  -- a way goes from a node to a node
  pub ways_inside : {v u len : ℕ} → Residual tr k x P Q v u len → (v ≤ count tr + count tr) × (u ≤ count tr + count tr)
  ways_inside (idle g len l e) = (omega arith, omega arith)
  ways_inside (unidle g l c) = (omega arith, omega arith)
  ways_inside (undrop t l c) = (omega arith, omega arith)
  ways_inside (fill t len l r c e) = (omega arith, omega arith)
  ways_inside (unfill t l c) = (omega arith, omega arith)
  ways_inside (drop t len l c e) = (omega arith, omega arith)
  ways_inside (hold t len l n a e) = (omega arith, omega arith)
  ways_inside (unhold t len l n a e) = (omega arith, omega arith)

  module _ (B : (v len : ℕ) → Type 0) where
    -- into a point: from the point before, from the point after where a slot is free, or from its request
    pub into-point : (g : ℕ) → g ≤ count tr
        → ((h len : ℕ) → suc h ≡ g → P h ≡ P g + len → B h len)
        → (g < count tr → crowd tr x g < k → B (suc g) 0)
        → (g < count tr → fills_at tr x g ≡ true → B (node tr g) 0)
        → ((len : ℕ) → g < count tr → fills_at tr x g ≡ false → Q g ≡ P g + len → B (node tr g) len)
        → (v len : ℕ) → Residual tr k x P Q v g len → B v len
    into-point g l b₁ b₂ b₃ b₄ v len r = go v g len r refl
      where
        go : (v u len : ℕ) → Residual tr k x P Q v u len → u ≡ g → B v len
        go v u len (idle h m i e) q = b₁ h m q (rw (← q) e)
        go v u len (unidle h i c) q = rw q (b₂ (omega arith) (rw q at c))
        go v u len (undrop t i c) q = absurd (omega arith)
        go v u len (fill t m i r c e) q = absurd (omega arith)
        go v u len (unfill t i c) q = rw q (b₃ (omega arith) (rw q at c))
        go v u len (drop t m i c e) q = rw q (b₄ m (omega arith) (rw q at c) (rw q at e))
        go v u len (hold t m i n a e) q = absurd (omega arith)
        go v u len (unhold t m i n a e) q = absurd (omega arith)

    -- into a request: from its point, from its item's previous request, or from its next where it is held up to that
    pub into-request : (t : ℕ) → t < count tr
        → (drops_at tr x t ≡ true → B t 0)
        → ((len : ℕ) → reads tr t ≡ true → drops_at tr x t ≡ false → P t + tr.rules.fill ≡ Q t + len → B t len)
        → ((s len : ℕ) → prev_of tr.reqs t ≡ s → s < count tr → after x s ≡ false
        → Q s + struck tr t ≡ Q t + missed tr t + len → B (node tr s) len)
        → ((len : ℕ) → next tr t < count tr → after x t ≡ true
        → Q (next tr t) + missed tr (next tr t) ≡ Q t + struck tr (next tr t) + len → B (node tr (next tr t)) len)
        → (v len : ℕ) → Residual tr k x P Q v (node tr t) len → B v len
    into-request t l b₁ b₂ b₃ b₄ v len r = go v (node tr t) len r refl
      where
        go : (v u len : ℕ) → Residual tr k x P Q v u len → u ≡ node tr t → B v len
        go v u len (idle h m i e) q = absurd (omega arith)
        go v u len (unidle h i c) q = absurd (omega arith)
        go v u len (undrop s i c) q = let z : s ≡ t = omega arith in rw z (b₁ (rw z at c))
        go v u len (fill s m i r c e) q = let z : s ≡ t = omega arith in rw z (b₂ m (rw z at r) (rw z at c) (rw z at e))
        go v u len (unfill s i c) q = absurd (omega arith)
        go v u len (drop s m i c e) q = absurd (omega arith)
        go v u len (hold s m i n a e) q =
            let z : next tr s ≡ t = omega arith in
            b₃ s m (ap (prev_of tr.reqs) (sym z) ∙ prev_of_next tr.reqs s n) i a (rw z at e)
        go v u len (unhold s m i n a e) q =
            let z : s ≡ t = omega arith in rw z (b₄ m (rw z at n) (rw z at a) (rw z at e))
