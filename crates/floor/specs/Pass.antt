-- What the pass over the requests is given, and the running sum of the rents that it keeps. Assumes nothing.
use Rattle.std.specs.Prelude.{◌≡◌, ℕ, zero, suc, ◌+◌, ◌≤◌, ◌<◌, List, length, get_or}
use Rattle.model.specs.Model.{Rents}
use Rattle.model.specs.Numbers.{max_rent}
use Rattle.model.specs.Links.{next_of}
use Rattle.trace.specs.TraceFile.{requests_at, trace_in, SoundTrace}

-- the rents of the first t gaps after gap 0
abbrev pub paid_to : Rents → (t : ℕ) → ℕ
paid_to rent zero = 0
paid_to rent (suc t) = paid_to rent t + rent (suc t)

-- a sound trace, a rent within its limit for each gap after gap 0, and the next request of each request
pub record Ready (trace rents next : List ℕ) : Type 0 where
  pub sound : SoundTrace trace
  pub count : length rents ≡ requests_at trace
  pub within : (t : ℕ) → get_or rents t 0 ≤ max_rent
  pub nexts : (t : ℕ) → t < requests_at trace → get_or next t 0 ≡ next_of (trace_in trace).reqs t
