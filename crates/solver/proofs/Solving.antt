-- The rows of a solve, and what its calls answer and lay, as its promise has it. Assumes nothing.
use mathlib.Core.Path.{◌≡◌, refl, ap}
use Prim.Native.Nat.{ℕ, ◌≤◌, ◌<◌}
use mathlib.Core.Bool.{Bool, true, false}
use mathlib.Core.List.{List}
use lib.Dec.{ltb}
use lib.ListN.{length}
use borrow.Author.Tests.{lt-ltb, le-ltb}
use Rattle.std.proofs.Common.{Result, Ok, Err}
use Rattle.model.specs.Refusals.{passes, refusal, row, number_of, place_of}
use Rattle.model.specs.declared.Refusal.{Refusal}
use Rattle.model.specs.declared.Refusal.TheVariants.{BufferTooShort}
use Rattle.model.proofs.Refusals.{answer_fine, answer_refused}
use Rattle.trace.specs.TraceFile.{requests_at, trace_tried}
use Rattle.trace.specs.Answers.{header_in}
use Rattle.trace.specs.declared.Header.{Header}
use Rattle.plan.specs.PlanFile.{shape_of, length_of}
use Rattle.opening.specs.Opened.{Opened}
use Rattle.solver.specs.Solve.{solve_tried, Accepted, Promise}

-- ---- rows

module _ (trace : List ℕ) (room : ℕ) where
  tried_refused : (number place : ℕ) → trace_tried trace ≡ refusal number place → solve_tried trace room ≡ refusal number place
  unfolding solve_tried
  tried_refused number place e = rw e

  module _ (ok : trace_tried trace ≡ passes) where
    tried-fits : length_of (shape_of (requests_at trace)) ≤ room → solve_tried trace room ≡ passes
    unfolding solve_tried
    tried-fits l =
        let e : ltb room (length_of (shape_of (requests_at trace))) ≡ false = le-ltb room (length_of (shape_of (requests_at trace))) l in
        rw ok (ap (λ (b : Bool). row b 19 0 passes) e)

    tried-short : room < length_of (shape_of (requests_at trace)) → solve_tried trace room ≡ refusal 19 0
    unfolding solve_tried
    tried-short l =
        let e : ltb room (length_of (shape_of (requests_at trace))) ≡ true = lt-ltb room (length_of (shape_of (requests_at trace))) l in
        rw ok (ap (λ (b : Bool). row b 19 0 passes) e)

-- ---- a trace that is refused

pub refused_permitted : {trace from₀ charges₀ worth₀ from charges worth : List ℕ} {r : Refusal} (buffer : List ℕ)
    → Opened trace from₀ charges₀ worth₀ (Err r) from charges worth → Promise trace buffer (Err r) buffer
refused_permitted {trace} {r = r} buffer f =
    rw (tried_refused trace (length buffer) (number_of r) (place_of r) (answer_refused (trace_tried trace) (header_in trace) (number_of r) (place_of r) f.answer))
    (refl, refl)

-- ---- a sound one

module _ {trace from₀ charges₀ worth₀ from charges worth : List ℕ} {h : Header} (f : Opened trace from₀ charges₀ worth₀ (Ok h) from charges worth) where
  passed : trace_tried trace ≡ passes
  passed = (answer_fine (trace_tried trace) (header_in trace) h f.answer).0

  module _ (buffer : List ℕ) where
    -- a buffer that is too short is refused
    pub short-permitted : length buffer < length_of (shape_of (requests_at trace)) → Promise trace buffer (Err BufferTooShort) buffer
    short-permitted l = rw (tried-short trace (length buffer) passed l) (refl, refl)

    module _ (room : length_of (shape_of (requests_at trace)) ≤ length buffer) where
      -- and an accepted plan is what is promised
      pub accepted-permitted : {r : Result ℕ Refusal} {after : List ℕ} → Accepted trace buffer r after → Promise trace buffer r after
      accepted-permitted a = rw (tried-fits trace (length buffer) passed room) a
