-- From the answers of the calls that a replay makes to its own. Assumes nothing.
use mathlib.Core.Path.{◌≡◌, ap}
use Prim.Native.Nat.{ℕ}
use mathlib.Core.List.{List}
use lib.ListN.{length}
use borrow.Author.Tests.{eq-eqb, ne_eqb}
use Rattle.model.specs.Refusals.{passes, refusal, fine, refused}
use Rattle.model.proofs.Refusals.{answer_fine, answer_refused}
use Rattle.std.specs.Prelude.{Result}
use Rattle.model.specs.declared.Refusal.{Refusal}
use Rattle.trace.specs.TraceFile.{requests_at, trace_tried, trace_in}
use Rattle.trace.specs.Answers.{header_in, check_of}
use Rattle.trace.specs.declared.Header.{Header}
use Rattle.trace.proofs.Sound.{sound_trace}
use Rattle.links.specs.Promise.{Filled}
use Rattle.links.proofs.Answered.{next_at, prev_at}
use Rattle.replay.specs.Replay.{flags_tried, Totals, totals_of, replay_tried, replay_of}
use Rattle.replay.specs.Linked.{Forward}

-- a trace that is answered with its head passes rows 1 to 8
pub check_passes : (tr : List ℕ) (h : Header) → fine h ≡ check_of tr → trace_tried tr ≡ passes
check_passes tr h e = (answer_fine (trace_tried tr) (header_in tr) h e).0

-- and the head has the number of its requests
pub check_counts : (tr : List ℕ) (h : Header) → fine h ≡ check_of tr → h.requests ≡ requests_at tr
check_counts tr h e = ap (λ (x : Header). x.requests) (answer_fine (trace_tried tr) (header_in tr) h e).1

-- the lists that are filled say the next and the previous request of each
pub filled_forward : {tr flags old-next old-prev nexts prevs : List ℕ} {r : Result Header Refusal} → Filled tr old-next old-prev r nexts prevs
    → trace_tried tr ≡ passes → length flags ≡ requests_at tr → Forward tr flags nexts prevs
filled_forward {tr} {flags} {old-next} {old-prev} f e n =
    record {
      back = record { sound = sound_trace tr e; count = n; prev = λ t l. rw f.prevs (prev_at tr old-prev t e l) };
      next = λ t l. rw f.nexts (next_at tr old-next t e l);
    }

-- ---- the answer of a replay

module _ (tr flags : List ℕ) where
  pub trace_off : (number place : ℕ) → refused number place ≡ check_of tr → refused number place ≡ replay_of tr flags
  unfolding replay_tried
  trace_off number place e = rw (answer_refused (trace_tried tr) (header_in tr) number place e)

  module _ (e : trace_tried tr ≡ passes) where
    pub count-off : (length flags ≡ requests_at tr → ⊥) → refused 11 0 ≡ replay_of tr flags
    unfolding replay_tried
    count-off n = rw (e, ne_eqb (length flags) (requests_at tr) n)

    module _ (n : length flags ≡ requests_at tr) where
      pub flags-off : (number place : ℕ) → refusal number place ≡ flags_tried (trace_in tr) flags → refused number place ≡ replay_of tr flags
      unfolding replay_tried
      flags-off number place h = rw (e, eq-eqb (length flags) (requests_at tr) n, ← h)

      pub replay-done : (s : Totals) → passes ≡ flags_tried (trace_in tr) flags → s ≡ totals_of (trace_in tr) flags → fine s ≡ replay_of tr flags
      unfolding replay_tried
      replay-done s h p = rw (e, eq-eqb (length flags) (requests_at tr) n, ← h) (ap fine p)
