-- One slot more, hop by hop: it starts at the first point, every tight hop to a lower rank keeps it under way, and at the last point
-- the state is sound with one slot more. Assumes nothing.
use mathlib.Core.Path.{◌≡◌, refl, sym, ◌∙◌, ap}
use Prim.Native.Nat.{ℕ, zero, suc, ◌+◌, ◌-◌, ◌≤◌, ◌<◌}
use native.Mathlib.Omega.{arith}
use mathlib.Core.Bool.{Bool, true, false, cond, not, ◌&&◌, false≢true}
use lib.Dec.{eqb, ltb}
use borrow.Author.Tests.{eqb-true, eqb-false, eq-eqb, ne_eqb, lt-ltb, le-ltb}
use Rattle.model.specs.Model.{Trace}
use Rattle.model.specs.Plans.{Flags, contents, occupancy}
use Rattle.model.specs.Links.{prev_of}
use Rattle.model.proofs.Sums.{split}
use Rattle.model.proofs.Links.{next_is}
use Rattle.network.specs.Sound.{count, next, missed, struck, reads, after, before, fills_at, drops_at, crowd, Sound, node, Residual, idle, unidle, undrop, fill, unfill, drop, hold, unhold}
use Rattle.network.specs.Ways.{Arc, idling, filling, dropping, holding, Flow, src, dst, Is, Room, from, to, on, inflow, Balanced, flow_of, UnderWay, set_flag, moved}
use Rattle.network.proofs.Held.{kept, crowd_step_lem, crowd_first}
use Rattle.network.proofs.Push.{same, same_eq, Bumped, on_zero, balanced_ahead, balanced_behind}

-- ---- tests as numbers

abbrev num : Bool → ℕ
num b = cond b 1 0

flag_one : (b : Bool) → 0 < num b → b ≡ true
flag_one true h = refl
flag_one false h = absurd (omega arith)

one_flag : (b : Bool) → b ≡ true → num b ≡ 1
one_flag b e = rw e

no_flag : (b : Bool) → b ≡ false → num b ≡ 0
no_flag b e = rw e

drop_parts : (b a : Bool) → b && not a ≡ true → (num b ≡ 1) × (num a ≡ 0)
drop_parts true false e = (refl, refl)
drop_parts true true e = absurd (false≢true e)
drop_parts false a e = absurd (false≢true e)

fill_parts : (b a : Bool) → not b && a ≡ true → (num b ≡ 0) × (num a ≡ 1)
fill_parts false true e = (refl, refl)
fill_parts false false e = absurd (false≢true e)
fill_parts true a e = absurd (false≢true e)

-- ---- the first point

module _ (tr : Trace) (k : ℕ) (x : Flags) (P Q : ℕ → ℕ) (s : Sound tr k x P Q) where
  flow_feasible : (a : Arc) → Is tr a
      → (Room (flow_of tr k x) a → to tr P Q a ≤ from tr P Q a) × (0 < flow_of tr k x a → from tr P Q a ≤ to tr P Q a)
  flow_feasible (idling g) i = ((λ r. s.idle g i), (λ h. omega (arith, s.free g i (omega arith))))
  flow_feasible (filling t) i =
      ((λ r. s.up t i.0 i.1), (λ h. omega (arith, s.fills t i.0 (flag_one _ h))))
  flow_feasible (dropping t) i = ((λ r. s.down t i), (λ h. omega (arith, s.drops t i (flag_one _ h))))
  flow_feasible (holding t) i = (
    (λ r. s.apart t i.0 i.1 (split (after x t) (λ e. absurd (omega (arith, one_flag _ e))) (λ e. e))),
    (λ h. s.held t i.0 i.1 (flag_one _ h)),
  )

  flow_points : (g : ℕ) → g < count tr
      → inflow (suc k) (flow_of tr k x) g + flow_of tr k x (dropping g)
      ≡ flow_of tr k x (idling g) + flow_of tr k x (filling g) + on g 0
  flow_points zero l =
      omega (
        arith,
        crowd_step_lem tr x s.linked 0 l,
        crowd_first tr x,
        s.room 0 l,
        kept (before tr x 0) (after x 0),
      )
  flow_points (suc g) l =
      omega (
        arith,
        crowd_step_lem tr x s.linked (suc g) l,
        s.room g (omega arith),
        s.room (suc g) l,
        kept (before tr x (suc g)) (after x (suc g)),
        on_zero (suc g) 0 (λ e. omega arith),
      )

  -- the new slot stands at the first point, and no flag has changed
  pub walk_start : (rank : ℕ → ℕ) → UnderWay tr k x P Q rank 0 x
  walk_start rank = record {
    flow = flow_of tr k x;
    flags = λ t. refl;
    linked = s.linked;
    fill_read = λ t l h. s.fill_read t l (flag_one _ h);
    feasible = flow_feasible;
    balanced = record {
      requests = λ t l. omega (arith, kept (before tr x t) (after x t), on_zero (node tr t) 0 (λ e. omega arith));
      points = flow_points;
    };
    fresh = λ a l m. refl;
  }

-- ---- the last point

module _ (tr : Trace) (k : ℕ) (x₀ : Flags) (P Q rank : ℕ → ℕ) (x : Flags) (w : UnderWay tr k x₀ P Q rank (count tr) x) where
  -- the flags and the flow agree at a request
  end_request : (t : ℕ) → t < count tr
      → cond (before tr x t) 1 0 + w.flow (filling t) ≡ cond (after x t) 1 0 + w.flow (dropping t)
  end_request t l =
      omega (
        arith,
        w.balanced.requests t l,
        w.flags (prev_of tr.reqs t),
        w.flags t,
        on_zero (node tr t) (count tr) (λ e. omega arith),
      )

  -- each gap is crossed by all slots
  end_point : (g : ℕ) → g ≤ count tr → occupancy tr.reqs (contents tr.reqs x) g + inflow (suc k) w.flow g ≡ suc k
  end_point zero l = omega (arith, crowd_first tr x)
  end_point (suc g) l =
      omega (
        arith,
        end_point g (omega arith),
        crowd_step_lem tr x w.linked g l,
        end_request g l,
        w.balanced.points g l,
        on_zero g (count tr) (λ e. omega arith),
      )

  -- the new slot has come to the last point: the state is sound with one slot more
  pub walk_end : Sound tr (suc k) x P Q
  walk_end = record {
    linked = w.linked;
    room = λ g l. omega (arith, end_point (suc g) l);
    idle = λ g l. (w.feasible (idling g) l).0 tt;
    free = λ g l h. let a = (w.feasible (idling g) l).0 tt in
        omega (arith, (w.feasible (idling g) l).1 (omega (arith, end_point (suc g) l)));
    down = λ t l. (w.feasible (dropping t) l).0 tt;
    drops = λ t l e. let a = (w.feasible (dropping t) l).0 tt in
        omega (arith, (w.feasible (dropping t) l).1 (omega (arith, end_request t l, drop_parts (before tr x t) (after x t) e)));
    up = λ t l r. (w.feasible (filling t) (l, r)).0 tt;
    fills = λ t l e. let h : 0 < w.flow (filling t) = omega (arith, end_request t l, fill_parts (before tr x t) (after x t) e) in
        let r = w.fill_read t l h in
        let a = (w.feasible (filling t) (l, r)).0 tt in
        omega (arith, (w.feasible (filling t) (l, r)).1 h);
    fill_read = λ t l e. w.fill_read t l (omega (arith, end_request t l, fill_parts (before tr x t) (after x t) e));
    apart = λ t l n a. (w.feasible (holding t) (l, n)).0 (w.flags t ∙ no_flag _ a);
    held = λ t l n a. (w.feasible (holding t) (l, n)).1 (omega (arith, w.flags t, one_flag _ a));
  }

-- ---- a hop

room_same : (f g : Flow) (b : Arc) → g b ≡ f b → Room g b → Room f b
room_same f g (idling t) e r = tt
room_same f g (filling t) e r = tt
room_same f g (dropping t) e r = tt
room_same f g (holding t) e r = sym e ∙ r

-- one slot less on a step that has one
less_bumped : (f : Flow) (a : Arc) → 0 < f a → Bumped (λ b. f b - cond (same a b) 1 0) f a
less_bumped f a h b =
    split (same a b)
    (λ e. let q = ap f (same_eq a b e) in rw e (omega arith))
    (λ e. rw e (omega arith))

module _ (tr : Trace) (k : ℕ) (x₀ : Flags) (P Q rank : ℕ → ℕ) where
  -- the flow changes on a tight step alone, one of whose ends is left behind
  hop : (v u : ℕ) (x x' : Flags) (w : UnderWay tr k x₀ P Q rank v x) (a : Arc) (g : Flow) → Is tr a → from tr P Q a ≡ to tr P Q a
      → ((b : Arc) → same a b ≡ false → g b ≡ w.flow b) → rank u < rank v → (rank (src tr a) ≤ rank u → rank (dst tr a) ≤ rank u → ⊥)
      → ((t : ℕ) → g (holding t) ≡ num (after x' t)) → ((t : ℕ) → after x' t ≡ true → next tr t < count tr)
      → Balanced tr (suc k) u g → UnderWay tr k x₀ P Q rank u x'
  hop v u x x' w a g i tight other lower ends flags linked balanced = record {
    flow = g;
    flags = flags;
    linked = linked;
    fill_read = λ t l h. split (same a (filling t))
        (λ e. let j : Is tr (filling t) = rw (same_eq a (filling t) e) at i in j.1)
        (λ e. w.fill_read t l (omega (arith, other (filling t) e)));
    feasible = λ b j. split (same a b)
        (λ e. let q = same_eq a b e in let z : from tr P Q b ≡ to tr P Q b = rw q at tight in ((λ r. omega arith), (λ r. omega arith)))
        (λ e. (
          (λ r. (w.feasible b j).0 (room_same w.flow g b (other b e) r)),
          (λ r. (w.feasible b j).1 (omega (arith, other b e))),
        ));
    balanced = balanced;
    fresh = λ b l m. split (same a b)
        (λ e. let q = same_eq a b e in absurd (ends (rw q l) (rw q m)))
        (λ e. other b e ∙ w.fresh b (omega arith) (omega arith));
  }

  -- along a step
  hop_ahead : (a : Arc) (x x' : Flags) (w : UnderWay tr k x₀ P Q rank (src tr a) x) → Is tr a → from tr P Q a ≡ to tr P Q a
      → rank (dst tr a) < rank (src tr a) → ((t : ℕ) → w.flow (holding t) + num (same a (holding t)) ≡ num (after x' t))
      → ((t : ℕ) → after x' t ≡ true → next tr t < count tr) → UnderWay tr k x₀ P Q rank (dst tr a) x'
  hop_ahead a x x' w i tight lower flags linked =
      hop (src tr a) (dst tr a) x x' w a (λ b. w.flow b + cond (same a b) 1 0) i tight
      (λ b e. rw e (omega arith)) lower (λ l m. omega arith) flags linked
      (balanced_ahead tr (suc k) w.flow (λ b. w.flow b + cond (same a b) 1 0) a i (λ b. refl) w.balanced)

  -- back along a step that a slot takes
  hop_behind : (a : Arc) (x x' : Flags) (w : UnderWay tr k x₀ P Q rank (dst tr a) x) → Is tr a → from tr P Q a ≡ to tr P Q a
      → 0 < w.flow a → rank (src tr a) < rank (dst tr a) → ((t : ℕ) → w.flow (holding t) - num (same a (holding t)) ≡ num (after x' t))
      → ((t : ℕ) → after x' t ≡ true → next tr t < count tr) → UnderWay tr k x₀ P Q rank (src tr a) x'
  hop_behind a x x' w i tight has lower flags linked =
      hop (dst tr a) (src tr a) x x' w a (λ b. w.flow b - cond (same a b) 1 0) i tight
      (λ b e. rw e (omega arith)) lower (λ l m. omega arith) flags linked
      (balanced_behind tr (suc k) (λ b. w.flow b - cond (same a b) 1 0) w.flow a i (less_bumped w.flow a has) w.balanced)

  -- ---- the hops by kind

  module _ (x : Flags) where
    -- empty across a gap
    pub hop-idle : (g : ℕ) → UnderWay tr k x₀ P Q rank g x → g < count tr → P g ≡ P (suc g) → rank (suc g) < rank g
        → UnderWay tr k x₀ P Q rank (suc g) x
    hop-idle g w l e lower = hop_ahead (idling g) x x w l e lower (λ t. omega (arith, w.flags t)) w.linked

    -- back across a gap where a slot is free
    pub hop-unidle : (g : ℕ) → UnderWay tr k x₀ P Q rank (suc g) x → g < count tr → crowd tr x₀ g < k → rank g < rank (suc g)
        → UnderWay tr k x₀ P Q rank g x
    hop-unidle g w l c lower =
        let h : 0 < w.flow (idling g) = omega (arith, w.fresh (idling g) (omega arith) (omega arith)) in
        let f = (w.feasible (idling g) l).0 tt in
        let b = (w.feasible (idling g) l).1 h in
        hop_behind (idling g) x x w l (omega arith) h lower (λ t. omega (arith, w.flags t)) w.linked

    -- to a request that drops
    pub hop-undrop : (t : ℕ) → UnderWay tr k x₀ P Q rank t x → t < count tr → drops_at tr x₀ t ≡ true → rank (node tr t) < rank t
        → UnderWay tr k x₀ P Q rank (node tr t) x
    hop-undrop t w l c lower =
        let h : 0 < w.flow (dropping t) = omega (arith, w.fresh (dropping t) (omega arith) (omega arith), one_flag (drops_at tr x₀ t) c) in
        let f = (w.feasible (dropping t) l).0 tt in
        let b = (w.feasible (dropping t) l).1 h in
        hop_behind (dropping t) x x w l (omega arith) h lower (λ s. omega (arith, w.flags s)) w.linked

    -- to a read, by a fill
    pub hop-fill : (t : ℕ) → UnderWay tr k x₀ P Q rank t x → t < count tr → reads tr t ≡ true → P t + tr.rules.fill ≡ Q t
        → rank (node tr t) < rank t → UnderWay tr k x₀ P Q rank (node tr t) x
    hop-fill t w l r e lower = hop_ahead (filling t) x x w (l, r) e lower (λ s. omega (arith, w.flags s)) w.linked

    -- from a request that fills
    pub hop-unfill : (t : ℕ) → UnderWay tr k x₀ P Q rank (node tr t) x → t < count tr → fills_at tr x₀ t ≡ true
        → rank t < rank (node tr t) → UnderWay tr k x₀ P Q rank t x
    hop-unfill t w l c lower =
        let h : 0 < w.flow (filling t) = omega (arith, w.fresh (filling t) (omega arith) (omega arith), one_flag (fills_at tr x₀ t) c) in
        let r = w.fill_read t l h in
        let f = (w.feasible (filling t) (l, r)).0 tt in
        let b = (w.feasible (filling t) (l, r)).1 h in
        hop_behind (filling t) x x w (l, r) (omega arith) h lower (λ s. omega (arith, w.flags s)) w.linked

    -- from a request, by a drop
    pub hop-drop : (t : ℕ) → UnderWay tr k x₀ P Q rank (node tr t) x → t < count tr → Q t ≡ P t → rank t < rank (node tr t)
        → UnderWay tr k x₀ P Q rank t x
    hop-drop t w l e lower = hop_ahead (dropping t) x x w l e lower (λ s. omega (arith, w.flags s)) w.linked

    -- from a request to the next of its item: its flag is set
    pub hop-hold : (t : ℕ) → UnderWay tr k x₀ P Q rank (node tr t) x → t < count tr → next tr t < count tr → after x₀ t ≡ false
        → Q t + struck tr (next tr t) ≡ Q (next tr t) + missed tr (next tr t) → rank (node tr (next tr t)) < rank (node tr t)
        → UnderWay tr k x₀ P Q rank (node tr (next tr t)) (set_flag x t true)
    hop-hold t w l n a e lower =
        let z : w.flow (holding t) ≡ 0 = w.fresh (holding t) (omega arith) (omega arith) ∙ no_flag (after x₀ t) a in
        hop_ahead (holding t) x (set_flag x t true) w (l, n) e lower
        (λ s. split (eqb s t)
        (λ c. let q = eqb-true s t c in
        rw (c, eq-eqb t s (sym q)) (omega (arith, z, ap (λ m. w.flow (holding m)) q)))
        (λ c. rw (c, ne_eqb t s (λ q. eqb-false s t c (sym q))) (omega (arith, w.flags s))))
        (λ s f. split (eqb s t)
        (λ c. rw (eqb-true s t c) n)
        (λ c. w.linked s (rw c at f)))

    -- from a request to the one before it that is held: that one's flag is cleared
    pub hop-unhold : (t : ℕ) → UnderWay tr k x₀ P Q rank (node tr (next tr t)) x → t < count tr → next tr t < count tr → after x₀ t ≡ true
        → Q (next tr t) + missed tr (next tr t) ≡ Q t + struck tr (next tr t) → rank (node tr t) < rank (node tr (next tr t))
        → UnderWay tr k x₀ P Q rank (node tr t) (set_flag x t false)
    hop-unhold t w l n a e lower =
        let z : w.flow (holding t) ≡ 1 = w.fresh (holding t) (omega arith) (omega arith) ∙ one_flag (after x₀ t) a in
        hop_behind (holding t) x (set_flag x t false) w (l, n) (sym e) (omega arith) lower
        (λ s. split (eqb s t)
        (λ c. let q = eqb-true s t c in
        rw (c, eq-eqb t s (sym q)) (omega (arith, z, ap (λ m. w.flow (holding m)) q)))
        (λ c. rw (c, ne_eqb t s (λ q. eqb-false s t c (sym q))) (omega (arith, w.flags s))))
        (λ s f. split (eqb s t)
        (λ c. let f' : cond (eqb s t) false (x (suc s)) ≡ true = f in absurd (false≢true (rw c at f')))
        (λ c. w.linked s (rw c at f)))

    -- ---- what a hop does to the flags

    -- a hop from a point changes no flag
    pub point-still : (g u : ℕ) → g ≤ count tr → moved tr g u x ≡ x
    point-still g u l = rw (le-ltb (count tr) g l)

    -- nor does a hop to a point
    pub still-point : (v g : ℕ) → g ≤ count tr → moved tr v g x ≡ x
    still-point v g l = split (ltb (count tr) v) (λ e. rw (e, le-ltb (count tr) g l)) (λ e. rw e)

    -- a hop to a later request sets the flag of the one it leaves
    pub later-sets : (t u : ℕ) → t < u → moved tr (node tr t) (node tr u) x ≡ set_flag x t true
    later-sets t u l =
        let e : node tr t - (count tr + 1) ≡ t = omega arith in
        rw (lt-ltb (count tr) (node tr t) (omega arith), lt-ltb (count tr) (node tr u) (omega arith), lt-ltb (node tr t) (node tr u) (omega arith), e)

    -- a hop to an earlier request clears the flag of that one
    pub earlier-clears : (t u : ℕ) → t < u → moved tr (node tr u) (node tr t) x ≡ set_flag x t false
    earlier-clears t u l =
        let e : node tr t - (count tr + 1) ≡ t = omega arith in
        rw (lt-ltb (count tr) (node tr t) (omega arith), lt-ltb (count tr) (node tr u) (omega arith), le-ltb (node tr u) (node tr t) (omega arith), e)

    step_by : (v u len : ℕ) → UnderWay tr k x₀ P Q rank v x → Residual tr k x₀ P Q v u len → len ≡ 0 → rank u < rank v
        → UnderWay tr k x₀ P Q rank u (moved tr v u x)
    step_by v u len w (idle g m l e) z lower = rw (point-still g (suc g) (omega arith)) (hop-idle g w l (omega arith) lower)
    step_by v u len w (unidle g l c) z lower = rw (point-still (suc g) g l) (hop-unidle g w l c lower)
    step_by v u len w (undrop t l c) z lower = rw (point-still t (node tr t) (omega arith)) (hop-undrop t w l c lower)
    step_by v u len w (fill t m l r c e) z lower = rw (point-still t (node tr t) (omega arith)) (hop-fill t w l r (omega arith) lower)
    step_by v u len w (unfill t l c) z lower = rw (still-point (node tr t) t (omega arith)) (hop-unfill t w l c lower)
    step_by v u len w (drop t m l c e) z lower = rw (still-point (node tr t) t (omega arith)) (hop-drop t w l (omega arith) lower)
    step_by v u len w (hold t m l n a e) z lower =
        rw (later-sets t (next tr t) (next_is tr.reqs t).from) (hop-hold t w l n a (omega arith) lower)
    step_by v u len w (unhold t m l n a e) z lower =
        rw (earlier-clears t (next tr t) (next_is tr.reqs t).from) (hop-unhold t w l n a (omega arith) lower)

  -- a hop of length 0 to a lower rank, there for the flags that the walk began with, keeps the slot under way
  pub walk_step : (v u : ℕ) (x : Flags) → UnderWay tr k x₀ P Q rank v x → Residual tr k x₀ P Q v u 0 → rank u < rank v
      → UnderWay tr k x₀ P Q rank u (moved tr v u x)
  walk_step v u x w r lower = step_by x v u 0 w r refl lower
