-- What `fill` promises: the answer, and what the two lists then hold. Assumes nothing.
use Rattle.std.specs.Prelude.{◌≡◌, ℕ, List, Result}
use Rattle.model.specs.Refusals.{answered}
use Rattle.model.specs.declared.Refusal.{Refusal}
use Rattle.trace.specs.Answers.{check_of}
use Rattle.trace.specs.declared.Header.{Header}
use Rattle.links.specs.Linked.{nexts_in, prevs_in}

-- of a trace and the lists as they came in, the answer and the lists as they go out
pub record Filled (trace next prev : List ℕ) (r : Result Header Refusal) (next' prev' : List ℕ) : Type 0 where
  pub answer : answered r ≡ check_of trace
  pub nexts : next' ≡ nexts_in trace next
  pub prevs : prev' ≡ prevs_in trace prev
