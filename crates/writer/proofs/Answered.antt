-- The rows of a write: what is known where all of them pass, and from the answers of the calls that a write makes to its own. Assumes nothing.
use mathlib.Core.Path.{◌≡◌, refl, ◌∙◌, ap}
use Prim.Native.Nat.{ℕ, ◌+◌, ◌*◌, ◌≤◌}
use native.Mathlib.Omega.{arith}
use mathlib.Core.Bool.{Bool, true, false, not}
use mathlib.Core.List.{List, ◌++◌}
use lib.ListN.{length, drop}
use lib.Seq.{sets, sets-eq}
use lib.Dec.{eqb, ltb}
use borrow.Author.Tests.{eq-eqb, ne_eqb, eqb-true, le-ltb, ltb-false, not-false}
use Rattle.model.specs.Refusals.{Tried, passes, refusal, row, next, fine, refused}
use Rattle.model.proofs.Refusals.{row_passes, next_passes, answer_fine, answer_refused}
use Rattle.trace.specs.TraceFile.{requests_at, trace_tried, trace_in}
use Rattle.trace.specs.Answers.{header_in, check_of}
use Rattle.trace.specs.declared.Header.{Header}
use Rattle.plan.specs.PlanFile.{length_of, shape_of, rents_tried, plan_bytes}
use Rattle.plan.proofs.Written.{plan_length}
use Rattle.replay.specs.Replay.{count_tried, flags_tried, Totals, totals_of, replay_tried, replay_of}
use Rattle.replay.proofs.Answered.{check_passes}
use Rattle.replay.proofs.Laws.{Replays, replay_passes}
use Rattle.writer.specs.Write.{buffer_tried, written_cost, write_tried, write_of, buffer_of}

-- ---- rows that pass

-- a write that passes, taken apart
pub record Writes (tr flags rents : List ℕ) (room : ℕ) : Type 0 where
  pub trace : trace_tried tr ≡ passes
  pub flags_count : length flags ≡ requests_at tr
  pub rents_count : length rents ≡ requests_at tr
  pub rows : flags_tried (trace_in tr) flags ≡ passes
  pub low : rents_tried 0 rents ≡ passes
  pub long : 16 + 5 * requests_at tr ≤ room

-- a list that has as many numbers as there are requests
counted : (n : ℕ) (l : List ℕ) → count_tried n l ≡ passes → length l ≡ n
counted n l h = eqb-true _ _ (not-false _ (row_passes (not (eqb (length l) n)) 11 0 passes h).0)

pub write_passes : (tr flags rents : List ℕ) (room : ℕ) → write_tried tr flags rents room ≡ passes → Writes tr flags rents room
unfolding write_tried
write_passes tr flags rents room h =
    let n = requests_at tr in
    let a = next_passes (trace_tried tr) _ h in
    let b = next_passes (count_tried n flags) _ a.1 in
    let c = next_passes (count_tried n rents) _ b.1 in
    let d = next_passes (flags_tried (trace_in tr) flags) _ c.1 in
    let e = next_passes (rents_tried 0 rents) _ d.1 in
    let f = row_passes (ltb room (length_of (shape_of n))) 19 0 passes e.1 in
    record {
      trace = a.0;
      flags_count = counted n flags b.0;
      rents_count = counted n rents c.0;
      rows = d.0;
      low = e.0;
      long = omega (arith, ltb-false room (16 + n + 4 * n) f.0);
    }

pub writes_pass : (tr flags rents : List ℕ) (room : ℕ) → Writes tr flags rents room → write_tried tr flags rents room ≡ passes
unfolding write_tried
writes_pass tr flags rents room w =
    let n = requests_at tr in
    rw (w.trace, eq-eqb (length flags) n w.flags_count, eq-eqb (length rents) n w.rents_count, w.rows, w.low, le-ltb room (16 + n + 4 * n) (omega (arith, w.long)))

-- ---- rows that hold

-- either list of another length is refused alike
same_count : (x : Tried) (b : Bool) (rest : Tried) → next x (next (row b 11 0 passes) (next (refusal 11 0) rest)) ≡ next x (refusal 11 0)
same_count (refusal number place) b rest = refl
same_count passes true rest = refl
same_count passes false rest = refl

-- a row that is given is given whatever follows
given_first : (x y z rest : Tried) (number place : ℕ) → next x (next y z) ≡ refusal number place → next x (next y (next z rest)) ≡ refusal number place
given_first (refusal n p) y z rest number place h = h
given_first passes (refusal n p) z rest number place h = h
given_first passes passes (refusal n p) rest number place h = h
given_first passes passes passes rest number place h = let z : ◌≡◌ {A = ℕ} 0 1 = cc in absurd (omega arith)

module _ (tr : List ℕ) where
  -- a list of another length: the trace is refused, or the list
  pub trace_off : (number place : ℕ) → refused number place ≡ check_of tr → refusal number place ≡ next (trace_tried tr) (refusal 11 0)
  trace_off number place h = rw (answer_refused (trace_tried tr) (header_in tr) number place h)

  pub list_off : (h : Header) → fine h ≡ check_of tr → refusal 11 0 ≡ next (trace_tried tr) (refusal 11 0)
  list_off h e = rw (check_passes tr h e)

-- ---- the answer of a write

module _ (tr flags rents : List ℕ) (room : ℕ) where
  pub rents_off : (number place : ℕ) → (length rents ≡ requests_at tr → ⊥) → refusal number place ≡ next (trace_tried tr) (refusal 11 0)
      → refused number place ≡ write_of tr flags rents room
  unfolding write_tried
  rents_off number place off h =
      rw (ne_eqb (length rents) (requests_at tr) off, same_count (trace_tried tr) (not (eqb (length flags) (requests_at tr))) (next (flags_tried (trace_in tr) flags) (next (rents_tried 0 rents) (buffer_tried (requests_at tr) room))), ← h)

  module _ (count : length rents ≡ requests_at tr) where
    pub replay-off : (number place : ℕ) → refused number place ≡ replay_of tr flags → refused number place ≡ write_of tr flags rents room
    unfolding write_tried replay_tried
    replay-off number place h =
        let e = answer_refused (replay_tried tr flags) (totals_of (trace_in tr) flags) number place h in
        rw (eq-eqb (length rents) (requests_at tr) count, given_first (trace_tried tr) (count_tried (requests_at tr) flags) (flags_tried (trace_in tr) flags) (next (rents_tried 0 rents) (buffer_tried (requests_at tr) room)) number place e)

    module _ (totals : Totals) (done : fine totals ≡ replay_of tr flags) where
      replays : Replays tr flags
      replays = replay_passes tr flags (answer_fine (replay_tried tr flags) (totals_of (trace_in tr) flags) totals done).0

      pub room-off : (number place : ℕ) → refusal number place ≡ next (rents_tried 0 rents) (buffer_tried (requests_at tr) room)
          → refused number place ≡ write_of tr flags rents room
      unfolding write_tried
      room-off number place h =
          rw (replays.trace, eq-eqb (length flags) (requests_at tr) replays.count, eq-eqb (length rents) (requests_at tr) count, replays.rows, ← h)

      pub write_done : passes ≡ next (rents_tried 0 rents) (buffer_tried (requests_at tr) room) → fine totals.total ≡ write_of tr flags rents room
      unfolding write_tried
      write_done h =
          let e = (answer_fine (replay_tried tr flags) (totals_of (trace_in tr) flags) totals done).1 in
          rw (replays.trace, eq-eqb (length flags) (requests_at tr) replays.count, eq-eqb (length rents) (requests_at tr) count, replays.rows, ← h)
          (ap (λ (s : Totals). fine s.total) e)

-- ---- what the buffer then holds

module _ (tr flags rents buffer : List ℕ) where
  pub kept : (number place : ℕ) → refused number place ≡ write_of tr flags rents (length buffer) → buffer ≡ buffer_of tr flags rents buffer
  kept number place h = rw (answer_refused (write_tried tr flags rents (length buffer)) (written_cost tr flags) number place h)

  module _ (cost : ℕ) (h : fine cost ≡ write_of tr flags rents (length buffer)) where
    writes : Writes tr flags rents (length buffer)
    writes = write_passes tr flags rents (length buffer) (answer_fine (write_tried tr flags rents (length buffer)) (written_cost tr flags) cost h).0

    -- there is room for the plan
    pub room-there : 16 + length flags + 4 * length rents ≤ length buffer
    room-there = omega (arith, writes.flags_count, writes.rents_count, writes.long)

    pub filled : (buffer' : List ℕ) → buffer' ≡ sets buffer 0 (plan_bytes cost flags rents) → buffer' ≡ buffer_of tr flags rents buffer
    filled buffer' e =
        let a = answer_fine (write_tried tr flags rents (length buffer)) (written_cost tr flags) cost h in
        let long : 0 + length (plan_bytes cost flags rents) ≤ length buffer = omega (arith, plan_length cost flags rents, room-there) in
        let z : 0 + length (plan_bytes cost flags rents) ≡ length (plan_bytes cost flags rents) = omega arith in
        let laid : sets buffer 0 (plan_bytes cost flags rents) ≡ plan_bytes cost flags rents ++ drop (length (plan_bytes cost flags rents)) buffer = rw z at (sets-eq (plan_bytes cost flags rents) buffer 0 long) in
        e ∙ laid ∙ rw (a.0, a.1)
