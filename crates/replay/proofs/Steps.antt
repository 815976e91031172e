-- The rows 13, 14 and 15 where t requests are behind: one more request gives a refusal, or what is left decides. Assumes nothing.
use mathlib.Core.Path.{◌≡◌, refl, sym, ◌∙◌}
use Prim.Native.Nat.{ℕ, suc, ◌+◌, ◌-◌, ◌≤◌, ◌<◌}
use native.Mathlib.Numerals.{add-one}
use native.Mathlib.Omega.{arith}
use mir.Val.{bool_byte}
use mathlib.Core.Bool.{Bool, true, false, cond}
use mathlib.Core.List.{List}
use lib.ListN.{length, drop, drop_of_length-le}
use lib.Seq.{drop-cons}
use borrow.Author.Tests.{lt-ltb, le-ltb}
use Rattle.model.specs.Model.{Request, items}
use Rattle.model.specs.Plans.{flags_in, occupancy}
use Rattle.model.specs.Refusals.{passes, refusal}
use Rattle.model.proofs.Sums.{sum_zero}
use Rattle.model.proofs.Links.{occ-step}
use Rattle.trace.specs.TraceFile.{slots_at, rules_in, trace_in}
use Rattle.trace.proofs.Sound.{reqs_length}
use Rattle.replay.specs.Replay.{values_tried, stands_tried, room_tried, named}
use Rattle.replay.specs.Linked.{flag_at, held_by, stray_by, Backward, Forward, stands_of, room_of}
use Rattle.replay.proofs.Linked.{held_before, stray_is}

-- what nothing looks at, past the last request
abbrev pub none : Request
none = record { write = false; item = 0; cost = 0 }

-- a Bool as a number
pub as_number : (b a : Bool) → b ≡ a → bool_byte b ≡ cond a 1 0
as_number true a e = rw (← e)
as_number false a e = rw (← e)

-- ---- row 13

-- t flags are 0 or 1, and the others decide
pub record ValuesLeft (flags : List ℕ) (t : ℕ) : Type 0 where
  pub rest : values_tried t (drop t flags) ≡ values_tried 0 flags

-- ---- row 14

-- t flags stand where they may, and the others decide
pub record StandsLeft (tr flags : List ℕ) (t : ℕ) : Type 0 where
  pub rest : stands_tried (rules_in tr) t (drop t (trace_in tr).reqs) (flags_in flags) (named (trace_in tr) flags) ≡ stands_of tr flags

module _ {tr flags nexts prevs : List ℕ} {t : ℕ} (f : Forward tr flags nexts prevs) where
  pub stands_hit : StandsLeft tr flags t → t < length flags → stray_by tr flags nexts prevs t ≡ true → refusal 14 (t + 1) ≡ stands_of tr flags
  stands_hit v l h =
      let n = reqs_length tr in
      let e = sym (stray_is f t (omega (arith, f.back.count))) ∙ h in
      rw (add-one, ← v.rest, drop-cons (trace_in tr).reqs t none (omega (arith, f.back.count)), e)

  pub stands_on : StandsLeft tr flags t → t < length flags → stray_by tr flags nexts prevs t ≡ false → StandsLeft tr flags (t + 1)
  stands_on v l h =
      let n = reqs_length tr in
      let e = sym (stray_is f t (omega (arith, f.back.count))) ∙ h in
      let k = rw (drop-cons (trace_in tr).reqs t none (omega (arith, f.back.count)), e) at v.rest in
      record { rest = rw add-one k }

  pub stands_end : StandsLeft tr flags t → length flags ≤ t → passes ≡ stands_of tr flags
  stands_end v l =
      rw (← v.rest, drop_of_length-le (trace_in tr).reqs {i = t} (omega (arith, reqs_length tr, f.back.count)))

-- ---- row 15

-- gap t holds this many items, the gaps before it no more than there are slots, and the others decide
pub record RoomLeft (tr flags : List ℕ) (within t : ℕ) : Type 0 where
  pub fits : within ≤ slots_at tr
  pub held : within ≡ occupancy (trace_in tr).reqs (named (trace_in tr) flags) t
  pub rest : room_tried (trace_in tr) (named (trace_in tr) flags) t (drop t (trace_in tr).reqs) ≡ room_of tr flags

pub room_start : (tr flags : List ℕ) → RoomLeft tr flags 0 0
room_start tr flags = record { fits = omega arith; held = sym (sum_zero (items (trace_in tr).reqs)); rest = refl }

module _ {tr flags prevs : List ℕ} {within t : ℕ} (b : Backward tr flags prevs) where
  -- how many items the next gap holds
  pub room_step : RoomLeft tr flags within t → t < length flags
      → occupancy (trace_in tr).reqs (named (trace_in tr) flags) (suc t) + cond (held_by flags prevs t) 1 0 ≡ within + cond (flag_at flags t) 1 0
  room_step v l =
      rw (v.held, held_before b t (omega (arith, b.count)))
      (occ-step (trace_in tr).reqs (flags_in flags) t (omega (arith, b.count, reqs_length tr)))

  -- by the flags as numbers, of request t and of the one before it
  room_now : RoomLeft tr flags within t → t < length flags → (after before : ℕ) → after ≡ cond (flag_at flags t) 1 0 → before ≡ cond (held_by flags prevs t) 1 0
      → occupancy (trace_in tr).reqs (named (trace_in tr) flags) (suc t) + before ≡ within + after
  room_now v l after before ea eb = rw (ea, eb) (room_step v l)

  pub room_less : RoomLeft tr flags within t → t < length flags → (after before : ℕ) → after ≡ cond (flag_at flags t) 1 0 → before ≡ cond (held_by flags prevs t) 1 0
      → before ≤ within + after
  room_less v l after before ea eb = omega (arith, room_now v l after before ea eb)

  pub room_hit : RoomLeft tr flags within t → t < length flags → (after before : ℕ) → after ≡ cond (flag_at flags t) 1 0 → before ≡ cond (held_by flags prevs t) 1 0
      → slots_at tr < within + after - before → refusal 15 (t + 1) ≡ room_of tr flags
  room_hit v l after before ea eb more =
      let e = lt-ltb (slots_at tr) (occupancy (trace_in tr).reqs (named (trace_in tr) flags) (suc t)) (omega (arith, room_now v l after before ea eb)) in
      rw (add-one, ← v.rest, drop-cons (trace_in tr).reqs t none (omega (arith, b.count, reqs_length tr)), e)

  pub room_on : RoomLeft tr flags within t → t < length flags → (after before : ℕ) → after ≡ cond (flag_at flags t) 1 0 → before ≡ cond (held_by flags prevs t) 1 0
      → within + after - before ≤ slots_at tr → RoomLeft tr flags (within + after - before) (t + 1)
  room_on v l after before ea eb less =
      let k = room_now v l after before ea eb in
      let e = le-ltb (slots_at tr) (occupancy (trace_in tr).reqs (named (trace_in tr) flags) (suc t)) (omega arith) in
      let r = rw (drop-cons (trace_in tr).reqs t none (omega (arith, b.count, reqs_length tr)), e) at v.rest in
      record { fits = less; held = rw add-one (omega arith); rest = rw add-one r }

  pub room_end : RoomLeft tr flags within t → length flags ≤ t → passes ≡ room_of tr flags
  room_end v l = rw (← v.rest, drop_of_length-le (trace_in tr).reqs {i = t} (omega (arith, reqs_length tr, b.count)))
