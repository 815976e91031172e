-- What `begin` promises: the answer, and what the three lent lists then hold. Assumes nothing.
use Rattle.std.specs.Prelude.{◌≡◌, ℕ, List, Result, replicate}
use Rattle.model.specs.Refusals.{passes, refusal, answered}
use Rattle.model.specs.declared.Refusal.{Refusal}
use Rattle.trace.specs.TraceFile.{requests_at, trace_tried}
use Rattle.trace.specs.Answers.{check_of}
use Rattle.trace.specs.declared.Header.{Header}
use Rattle.links.specs.Linked.{nexts_in, prevs_in}
use Rattle.ways.specs.Promise.{Sourced, Charged}
use Rattle.worths.specs.Worths.{Started}

-- the next requests of a trace's requests
abbrev pub nexts_of : (trace : List ℕ) → List ℕ
nexts_of trace = nexts_in trace (replicate 1024 0)

-- the previous ones
abbrev pub prevs_of : (trace : List ℕ) → List ℕ
prevs_of trace = prevs_in trace (replicate 1024 0)

-- the three lists of a sound trace
pub record Lists (trace from charges worth from' charges' worth' : List ℕ) : Type 0 where
  pub sources : Sourced (requests_at trace) (nexts_of trace) (prevs_of trace) from from'
  pub charged : Charged trace charges charges'
  pub started : Started trace (nexts_of trace) worth worth'

-- of a trace and the lists as they came in, the answer and the lists as they go out
pub record Opened (trace from charges worth : List ℕ) (r : Result Header Refusal) (from' charges' worth' : List ℕ) : Type 0 where
  pub answer : answered r ≡ check_of trace
  pub sound : trace_tried trace ≡ passes → Lists trace from charges worth from' charges' worth'
  pub refused : (number place : ℕ) → trace_tried trace ≡ refusal number place → (from' ≡ from) × (charges' ≡ charges) × (worth' ≡ worth)
