-- The laws at work on a small trace: from the start, by one walk, to a plan of one slot that costs 19; then a search after which
-- no slot more is worth anything. So the laws' hypotheses can be met. Assumes nothing.
use mathlib.Core.Path.{◌≡◌, refl}
use Prim.Native.Nat.{ℕ, zero, suc, ◌+◌, ◌-◌, ◌≤◌, ◌<◌, min, max}
use native.Mathlib.Omega.{arith}
use mathlib.Core.Bool.{true, false, cond, false≢true, true≢false}
use mathlib.Core.List.{[], ◌∷◌}
use lib.IntN.{pos}
use lib.Dec.{lit≤}
use Rattle.model.specs.Model.{Trace, Rents, cost, floor}
use Rattle.model.specs.Plans.{Flags, contents, SoundFlags}
use Rattle.network.specs.Sound.{no_flags, Start, Sound, Residual, idle, unidle, undrop, fill, unfill, drop, hold, unhold, raised_points, raised_requests, ahead, reads}
use Rattle.network.specs.Ways.{UnderWay, moved}
use Rattle.network.proofs.Worths.{start_sound, more_slots, raise}
use Rattle.network.proofs.Solved.{sound_solved}
use Rattle.network.proofs.Walk.{walk_start, walk_step, walk_end}

-- a read, a write and a read of one item
abbrev tr : Trace
tr = record {
  rules = record { slots = 1; fill = 2 };
  reqs = record { write = false; item = 7; cost = 10 } ∷ record { write = true; item = 7; cost = 7 } ∷ record { write = false; item = 7; cost = 10 } ∷ [];
}

abbrev P : ℕ → ℕ
P zero = 1
P (suc g) = 0

abbrev Q : ℕ → ℕ
Q zero = 3
Q (suc zero) = 10
Q (suc (suc t)) = 0

-- these are the least worths
started : Start tr P Q
started = record { last = refl; request = request; point = point }
  where
    request : (t : ℕ) → t < 3 → Q t ≡ max (P (suc t)) (ahead tr Q t)
    request zero l = refl
    request (suc zero) l = refl
    request (suc (suc zero)) l = refl
    request (suc (suc (suc t))) l = absurd (omega arith)

    point : (t : ℕ) → t < 3 → P t ≡ cond (reads tr t) (max (P (suc t)) (Q t - 2)) (P (suc t))
    point zero l = refl
    point (suc zero) l = refl
    point (suc (suc zero)) l = refl
    point (suc (suc (suc t))) l = absurd (omega arith)

none_sound : Sound tr 0 no_flags P Q
none_sound = start_sound tr P Q started

-- ---- the walk from point 0 by the three requests and point 2 to point 3

abbrev rank : ℕ → ℕ
rank zero = 5
rank (suc zero) = 9
rank (suc (suc zero)) = 1
rank (suc (suc (suc zero))) = 0
rank (suc (suc (suc (suc zero)))) = 4
rank (suc (suc (suc (suc (suc zero))))) = 3
rank (suc (suc (suc (suc (suc (suc v)))))) = 2

abbrev On : ℕ → Flags → Type 0
On v x = UnderWay tr 0 no_flags P Q rank v x

abbrev x₁ : Flags
x₁ = moved tr 4 5 no_flags

abbrev x₂ : Flags
x₂ = moved tr 5 6 x₁

at_4 : On 4 no_flags
at_4 = walk_step tr 0 no_flags P Q rank 0 4 no_flags (walk_start tr 0 no_flags P Q none_sound rank) (fill 0 0 (lit≤ tt) refl refl refl) (lit≤ tt)

at_5 : On 5 x₁
at_5 = walk_step tr 0 no_flags P Q rank 4 5 no_flags at_4 (hold 0 0 (lit≤ tt) (lit≤ tt) refl refl) (lit≤ tt)

at_6 : On 6 x₂
at_6 = walk_step tr 0 no_flags P Q rank 5 6 x₁ at_5 (hold 1 0 (lit≤ tt) (lit≤ tt) refl refl) (lit≤ tt)

at_2 : On 2 x₂
at_2 = walk_step tr 0 no_flags P Q rank 6 2 x₂ at_6 (drop 2 0 (lit≤ tt) refl refl) (lit≤ tt)

at_3 : On 3 x₂
at_3 = walk_step tr 0 no_flags P Q rank 2 3 x₂ at_2 (idle 2 0 (lit≤ tt) refl) (lit≤ tt)

one_sound : Sound tr 1 x₂ P Q
one_sound = walk_end tr 0 no_flags P Q rank x₂ at_3

-- ---- the plan

abbrev rent : Rents
rent zero = 0
rent (suc g) = P g - P (suc g)

planned : SoundFlags tr x₂ × (floor tr rent ≡ pos (cost tr (contents tr.reqs x₂)))
planned = sound_solved tr x₂ P Q one_sound rent (λ g l. refl)

costs_19 : cost tr (contents tr.reqs x₂) ≡ 19
unfolding cost
costs_19 = refl

-- ---- one more search: the first point is 1 away from the last, and so are the first two requests

abbrev dist : ℕ → ℕ
dist zero = 1
dist (suc zero) = 0
dist (suc (suc zero)) = 0
dist (suc (suc (suc zero))) = 0
dist (suc (suc (suc (suc zero)))) = 1
dist (suc (suc (suc (suc (suc zero))))) = 1
dist (suc (suc (suc (suc (suc (suc v)))))) = 0

searched : (v u len : ℕ) → Residual tr 1 x₂ P Q v u len → min (dist v) 1 ≤ min (dist u) 1 + len
searched v u len (idle zero m l e) = omega arith
searched v u len (idle (suc zero) m l e) = omega arith
searched v u len (idle (suc (suc zero)) m l e) = omega arith
searched v u len (idle (suc (suc (suc g))) m l e) = absurd (omega arith)
searched v u len (unidle zero l c) = omega arith
searched v u len (unidle (suc zero) l c) = omega arith
searched v u len (unidle (suc (suc zero)) l c) = omega arith
searched v u len (unidle (suc (suc (suc g))) l c) = absurd (omega arith)
searched v u len (undrop zero l c) = absurd (false≢true c)
searched v u len (undrop (suc zero) l c) = absurd (false≢true c)
searched v u len (undrop (suc (suc zero)) l c) = omega arith
searched v u len (undrop (suc (suc (suc g))) l c) = absurd (omega arith)
searched v u len (fill zero m l r c e) = omega arith
searched v u len (fill (suc zero) m l r c e) = omega arith
searched v u len (fill (suc (suc zero)) m l r c e) = omega arith
searched v u len (fill (suc (suc (suc g))) m l r c e) = absurd (omega arith)
searched v u len (unfill zero l c) = omega arith
searched v u len (unfill (suc zero) l c) = absurd (false≢true c)
searched v u len (unfill (suc (suc zero)) l c) = omega arith
searched v u len (unfill (suc (suc (suc g))) l c) = absurd (omega arith)
searched v u len (drop zero m l c e) = omega arith
searched v u len (drop (suc zero) m l c e) = omega arith
searched v u len (drop (suc (suc zero)) m l c e) = omega arith
searched v u len (drop (suc (suc (suc g))) m l c e) = absurd (omega arith)
searched v u len (hold zero m l n a e) = absurd (true≢false a)
searched v u len (hold (suc zero) m l n a e) = absurd (true≢false a)
searched v u len (hold (suc (suc zero)) m l n a e) = absurd (omega (arith, n))
searched v u len (hold (suc (suc (suc g))) m l n a e) = absurd (omega arith)
searched v u len (unhold zero m l n a e) = omega arith
searched v u len (unhold (suc zero) m l n a e) = omega arith
searched v u len (unhold (suc (suc zero)) m l n a e) = absurd (omega (arith, n))
searched v u len (unhold (suc (suc (suc g))) m l n a e) = absurd (omega arith)

-- the plan of one slot is sound with any number of slots
many_sound : (k : ℕ) → 1 ≤ k → Sound tr k x₂ (raised_points P dist 1) (raised_requests tr Q dist 1)
many_sound k l =
    more_slots tr 1 k x₂ (raised_points P dist 1) (raised_requests tr Q dist 1) (raise tr 1 x₂ P Q dist 1 one_sound searched) refl l
