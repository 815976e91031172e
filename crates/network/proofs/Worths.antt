-- Sound states: the start, more slots once no slot is worth anything, and worths raised by a search. Assumes nothing.
use mathlib.Core.Path.{◌≡◌}
use Prim.Native.Nat.{ℕ, suc, ◌+◌, ◌-◌, ◌≤◌, ◌<◌}
use native.Mathlib.Omega.{arith}
use mathlib.Core.Bool.{true, false, false≢true}
use borrow.Author.Tests.{lt-ltb}
use Rattle.model.specs.Model.{Trace}
use Rattle.model.specs.Plans.{Flags}
use Rattle.model.proofs.Sums.{split}
use Rattle.network.specs.Sound.{count, next, missed, struck, reads, after, fills_at, drops_at, no_flags, Sound, Residual, idle, unidle, undrop, fill, unfill, drop, hold, unhold, Searched, raised_points, raised_requests, Start}
use Rattle.network.proofs.Held.{falls, crowd_none}

-- ---- the start

module _ (tr : Trace) (P Q : ℕ → ℕ) (s : Start tr P Q) where
  start_idle : (t : ℕ) → t < count tr → P (suc t) ≤ P t
  start_idle t l = split (reads tr t) (λ e. omega (arith, rw e at (s.point t l))) (λ e. omega (arith, rw e at (s.point t l)))

  start_up : (t : ℕ) → t < count tr → reads tr t ≡ true → Q t ≤ P t + tr.rules.fill
  start_up t l e = omega (arith, rw e at (s.point t l))

  start_apart : (t : ℕ) → t < count tr → next tr t < count tr
      → Q (next tr t) + missed tr (next tr t) ≤ Q t + struck tr (next tr t)
  start_apart t l n = omega (arith, rw (lt-ltb _ _ n) at (s.request t l))

  -- no flags and no slots are sound with the worths that are told from the last request back
  pub start_sound : Sound tr 0 no_flags P Q
  start_sound = record {
    linked = λ t e. absurd (false≢true e);
    room = λ g l. omega (arith, crowd_none tr g);
    idle = start_idle;
    free = λ g l h. absurd (omega arith);
    down = λ t l. split (reads tr t)
        (λ e. omega (arith, s.request t l, rw e at (s.point t l)))
        (λ e. omega (arith, s.request t l, rw e at (s.point t l)));
    drops = λ t l e. absurd (false≢true e);
    up = start_up;
    fills = λ t l e. absurd (false≢true e);
    fill_read = λ t l e. absurd (false≢true e);
    apart = λ t l n a. start_apart t l n;
    held = λ t l n a. absurd (false≢true a);
  }

-- ---- more slots

-- once the first point is worth no more than the last, the state is sound with any more slots
pub more_slots : (tr : Trace) (k k' : ℕ) (x : Flags) (P Q : ℕ → ℕ) → Sound tr k x P Q → P 0 ≡ P (count tr) → k ≤ k'
    → Sound tr k' x P Q
more_slots tr k k' x P Q s e l = record {
  linked = s.linked;
  room = λ g m. omega (arith, s.room g m);
  idle = s.idle;
  free = λ g m h. omega (
    arith,
    s.idle g m,
    falls (count tr) P s.idle 0 g (omega arith) (omega arith),
    falls (count tr) P s.idle (suc g) (count tr) m (omega arith),
  );
  down = s.down;
  drops = s.drops;
  up = s.up;
  fills = s.fills;
  fill_read = s.fill_read;
  apart = s.apart;
  held = s.held;
}

-- ---- worths raised by a search

module _ (tr : Trace) (k : ℕ) (x : Flags) (P Q dist : ℕ → ℕ) (D : ℕ) where
  module _ (s : Sound tr k x P Q) (f : Searched tr k x P Q dist D) where
    idle-raised : (g : ℕ) → g < count tr → raised_points P dist D (suc g) ≤ raised_points P dist D g
    idle-raised g l =
        let h = s.idle g l in
        let e : P g ≡ P (suc g) + (P g - P (suc g)) = omega arith in
        omega (arith, f _ _ _ (idle g (P g - P (suc g)) l e))

    down-raised : (t : ℕ) → t < count tr → raised_points P dist D t ≤ raised_requests tr Q dist D t
    down-raised t l =
        let h = s.down t l in
        let e : Q t ≡ P t + (Q t - P t) = omega arith in
        split (fills_at tr x t)
        (λ c. omega (arith, s.fills t l c, f _ _ _ (unfill t l c)))
        (λ c. omega (arith, f _ _ _ (drop t (Q t - P t) l c e)))

    up-raised : (t : ℕ) → t < count tr → reads tr t ≡ true
        → raised_requests tr Q dist D t ≤ raised_points P dist D t + tr.rules.fill
    up-raised t l r =
        let h = s.up t l r in
        let e : P t + tr.rules.fill ≡ Q t + (P t + tr.rules.fill - Q t) = omega arith in
        split (drops_at tr x t)
        (λ c. omega (arith, s.drops t l c, f _ _ _ (undrop t l c)))
        (λ c. omega (arith, f _ _ _ (fill t (P t + tr.rules.fill - Q t) l r c e)))

    apart-raised : (t : ℕ) → t < count tr → next tr t < count tr → after x t ≡ false
        → raised_requests tr Q dist D (next tr t) + missed tr (next tr t) ≤ raised_requests tr Q dist D t + struck tr (next tr t)
    apart-raised t l n a =
        let h = s.apart t l n a in
        let len = Q t + struck tr (next tr t) - (Q (next tr t) + missed tr (next tr t)) in
        let e : Q t + struck tr (next tr t) ≡ Q (next tr t) + missed tr (next tr t) + len = omega arith in
        omega (arith, f _ _ _ (hold t len l n a e))

    held-raised : (t : ℕ) → t < count tr → next tr t < count tr → after x t ≡ true
        → raised_requests tr Q dist D t + struck tr (next tr t) ≤ raised_requests tr Q dist D (next tr t) + missed tr (next tr t)
    held-raised t l n a =
        let h = s.held t l n a in
        let len = Q (next tr t) + missed tr (next tr t) - (Q t + struck tr (next tr t)) in
        let e : Q (next tr t) + missed tr (next tr t) ≡ Q t + struck tr (next tr t) + len = omega arith in
        omega (arith, f _ _ _ (unhold t len l n a e))

    -- the worths raised by what their distances are short of D are sound again
    pub raise : Sound tr k x (raised_points P dist D) (raised_requests tr Q dist D)
    raise = record {
      linked = s.linked;
      room = s.room;
      idle = idle-raised;
      free = λ g l h. omega (arith, idle-raised g l, s.free g l h, f _ _ _ (unidle g l h));
      down = down-raised;
      drops = λ t l c. omega (arith, down-raised t l, s.drops t l c, f _ _ _ (undrop t l c));
      up = up-raised;
      fills = λ t l c. omega (arith, up-raised t l (s.fill_read t l c), s.fills t l c, f _ _ _ (unfill t l c));
      fill_read = s.fill_read;
      apart = apart-raised;
      held = held-raised;
    }

  -- a way by which a distance was found has length 0 at the raised worths
  pub raised_tight : {v u len : ℕ} → Residual tr k x P Q v u len → dist v ≡ dist u + len → dist v ≤ D
      → Residual tr k x (raised_points P dist D) (raised_requests tr Q dist D) v u 0
  raised_tight (idle g len l e) d m = idle g 0 l (omega arith)
  raised_tight (unidle g l c) d m = unidle g l c
  raised_tight (undrop t l c) d m = undrop t l c
  raised_tight (fill t len l r c e) d m = fill t 0 l r c (omega arith)
  raised_tight (unfill t l c) d m = unfill t l c
  raised_tight (drop t len l c e) d m = drop t 0 l c (omega arith)
  raised_tight (hold t len l n a e) d m = hold t 0 l n a (omega arith)
  raised_tight (unhold t len l n a e) d m = unhold t 0 l n a (omega arith)
