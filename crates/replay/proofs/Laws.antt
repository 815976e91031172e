-- What a replay that passes says: sound flags, allowed contents, totals within the limits; and that it has one answer. Assumes nothing.
use mathlib.Core.Path.{◌≡◌, refl, sym}
use Prim.Native.Nat.{ℕ, suc, ◌+◌, ◌≤◌, ◌<◌}
use native.Mathlib.Omega.{arith}
use mathlib.Core.Bool.{Bool, true, false, ◌&&◌, not, false≢true}
use mathlib.Core.List.{List, [], ◌∷◌}
use lib.ListN.{length}
use lib.Dec.{eqb, ltb}
use borrow.Author.Tests.{ltb-false, le-ltb, eqb-true, not-false}
use native.Mathlib.Decide.{dec_lt}
use Rattle.model.specs.Model.{Rules, Request, Trace, Contents, Allowed, items, misses, fills, strikes}
use Rattle.model.specs.Plans.{Flags, flags_in, may_flag, FlagsFrom, occupancy, SoundFlags}
use Rattle.model.specs.Numbers.{max_requests, max_plan_cost}
use Rattle.std.specs.Prelude.{Result}
use Rattle.model.specs.Refusals.{passes, Answer, answered}
use Rattle.model.specs.declared.Refusal.{Refusal}
use Rattle.model.proofs.Sums.{sum_zero}
use Rattle.model.proofs.Plans.{flags_name_allowed}
use Rattle.model.proofs.Bounds.{no_plan_above}
use Rattle.model.proofs.Refusals.{row_passes, next_passes, answered_unique}
use Rattle.trace.specs.TraceFile.{requests_at, trace_tried, trace_in}
use Rattle.trace.proofs.Sound.{sound_trace, trace_within, reqs_length}
use Rattle.replay.specs.Replay.{values_tried, stands_tried, room_tried, named, flags_tried, count_tried, Totals, totals_of, replay_tried}
use Rattle.replay.proofs.Counting.{no_count_above}

-- ---- rows that pass

-- a flag that is 1 may be
may_be : (x may : Bool) → (x && not may) ≡ false → x ≡ true → may ≡ true
may_be true true h e = refl
may_be true false h e = absurd (false≢true (sym h))
may_be false m h e = absurd (false≢true e)

-- and where it may be it does not stand astray
may_stand : (x may : Bool) → (x ≡ true → may ≡ true) → (x && not may) ≡ false
may_stand true may h = rw (h refl)
may_stand false may h = refl

stands_passes : (ru : Rules) (t : ℕ) (rs : List Request) (x : Flags) (S : Contents) → stands_tried ru t rs x S ≡ passes → FlagsFrom ru t rs x S
stands_passes ru t [] x S h = tt
stands_passes ru t (r ∷ rs) x S h =
    let k = row_passes (x (suc t) && not (may_flag ru t r rs S)) 14 (suc t) (stands_tried ru (suc t) rs x S) h in
    (may_be (x (suc t)) (may_flag ru t r rs S) k.0, stands_passes ru (suc t) rs x S k.1)

stands_pass : (ru : Rules) (t : ℕ) (rs : List Request) (x : Flags) (S : Contents) → FlagsFrom ru t rs x S → stands_tried ru t rs x S ≡ passes
stands_pass ru t [] x S h = refl
stands_pass ru t (r ∷ rs) x S (h, hs) = rw (may_stand (x (suc t)) (may_flag ru t r rs S) h) (stands_pass ru (suc t) rs x S hs)

-- no gap from t + 1 to the last holds more than there are slots
room_passes : (tr : Trace) (S : Contents) (t : ℕ) (rs : List Request) → room_tried tr S t rs ≡ passes
    → (g : ℕ) → t < g → g ≤ t + length rs → occupancy tr.reqs S g ≤ tr.rules.slots
room_passes tr S t [] h g a z = absurd (omega arith)
room_passes tr S t (r ∷ rs) h g a z =
    let k = row_passes (ltb tr.rules.slots (occupancy tr.reqs S (suc t))) 15 (suc t) (room_tried tr S (suc t) rs) h in
    elim (dec_lt (suc t) g) [
      | yes y ↦ room_passes tr S (suc t) rs k.1 g y (omega arith)
      | no y ↦ let e : g ≡ suc t = omega arith in rw e (ltb-false _ _ k.0)
    ]

room_pass : (tr : Trace) (S : Contents) (t : ℕ) (rs : List Request)
    → ((g : ℕ) → t < g → g ≤ t + length rs → occupancy tr.reqs S g ≤ tr.rules.slots) → room_tried tr S t rs ≡ passes
room_pass tr S t [] h = refl
room_pass tr S t (r ∷ rs) h =
    rw (le-ltb tr.rules.slots (occupancy tr.reqs S (suc t)) (h (suc t) (omega arith) (omega arith)))
    (room_pass tr S (suc t) rs (λ g a z. h g (omega arith) (omega arith)))

-- flags that pass rows 13 to 15 are sound
pub flags_sound : (tr : Trace) (flags : List ℕ) → flags_tried tr flags ≡ passes → SoundFlags tr (flags_in flags)
unfolding flags_tried
flags_sound tr flags h =
    let S = named tr flags in
    let a = next_passes (values_tried 0 flags) _ h in
    let b = next_passes (stands_tried tr.rules 0 tr.reqs (flags_in flags) S) _ a.1 in
    record {
      stand = stands_passes tr.rules 0 tr.reqs (flags_in flags) S b.0;
      room = λ g l. elim (dec_lt 0 g) [
        | yes y ↦ room_passes tr S 0 tr.reqs b.1 g y (omega arith)
        | no y ↦ let e : g ≡ 0 = omega arith in rw e (rw (sum_zero (items tr.reqs)) (omega arith))
      ];
    }

-- and sound flags, each 0 or 1, pass
pub sound_flags_pass : (tr : Trace) (flags : List ℕ) → values_tried 0 flags ≡ passes → SoundFlags tr (flags_in flags) → flags_tried tr flags ≡ passes
unfolding flags_tried
sound_flags_pass tr flags v s =
    rw (v, stands_pass tr.rules 0 tr.reqs (flags_in flags) (named tr flags) s.stand)
    (room_pass tr (named tr flags) 0 tr.reqs (λ g a z. s.room g (omega arith)))

-- the contents that flags which pass name are allowed
pub flags_allowed : (tr : Trace) (flags : List ℕ) → flags_tried tr flags ≡ passes → Allowed tr (named tr flags)
flags_allowed tr flags h = flags_name_allowed tr (flags_in flags) (flags_sound tr flags h)

-- ---- a replay

-- a replay that passes, taken apart
pub record Replays (tr flags : List ℕ) : Type 0 where
  pub trace : trace_tried tr ≡ passes
  pub count : length flags ≡ requests_at tr
  pub rows : flags_tried (trace_in tr) flags ≡ passes

pub replay_passes : (tr flags : List ℕ) → replay_tried tr flags ≡ passes → Replays tr flags
unfolding replay_tried
replay_passes tr flags h =
    let a = next_passes (trace_tried tr) _ h in
    let b = next_passes (count_tried (requests_at tr) flags) _ a.1 in
    let c = row_passes (not (eqb (length flags) (requests_at tr))) 11 0 passes b.0 in
    record { trace = a.0; count = eqb-true _ _ (not-false _ c.0); rows = b.1 }

-- the contents that the flags name are allowed
pub replayed_allowed : (tr flags : List ℕ) → replay_tried tr flags ≡ passes → Allowed (trace_in tr) (named (trace_in tr) flags)
replayed_allowed tr flags h = flags_allowed (trace_in tr) flags (replay_passes tr flags h).rows

-- totals within the limits of document 01
pub record TotalsWithin (s : Totals) : Type 0 where
  pub total : s.total ≤ max_plan_cost
  pub misses : s.misses ≤ max_requests
  pub fills : s.fills ≤ max_requests
  pub strikes : s.strikes ≤ max_requests

-- the totals of flags on a sound trace are within them
pub totals_within : (tr flags : List ℕ) → trace_tried tr ≡ passes → TotalsWithin (totals_of (trace_in tr) flags)
totals_within tr flags h =
    let sound = sound_trace tr h in
    let S = named (trace_in tr) flags in
    record {
      total = no_plan_above (trace_in tr) (trace_within tr sound) S;
      misses = omega (arith, no_count_above misses (trace_in tr) S, reqs_length tr, sound.requests);
      fills = omega (arith, no_count_above fills (trace_in tr) S, reqs_length tr, sound.requests);
      strikes = omega (arith, no_count_above strikes (trace_in tr) S, reqs_length tr, sound.requests);
    }

-- ---- one answer

-- what a call's promise permits is one answer
pub replay_unique : (a b : Result Totals Refusal) (x : Answer Totals) → answered a ≡ x → answered b ≡ x → a ≡ b
replay_unique = answered_unique
