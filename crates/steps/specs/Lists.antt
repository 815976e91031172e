-- What the solver's lists hold of a trace, and its worths and flags as lists. Requests are counted from 0. Assumes nothing.
use Rattle.std.specs.Prelude.{◌≡◌, ℕ, suc, ◌+◌, ◌*◌, ◌≤◌, ◌<◌, List, get_or}
use Rattle.model.specs.Model.{Trace}
use Rattle.model.specs.Plans.{flags_in}
use Rattle.model.specs.Links.{next_of, prev_of}
use Rattle.model.specs.Numbers.{Within}
use Rattle.trace.specs.TraceFile.{requests_at, fill_at, trace_in}
use Rattle.ways.specs.Ways.{source_by, charge_at}
use Rattle.network.specs.Sound.{count, Sound, Bounded}

-- the lists of a sound trace of n requests with this fill price: where ways come from, and what requests pay
pub record Lists (trace : List ℕ) (n fill : ℕ) (from charges : List ℕ) : Type 0 where
  pub within : Within (trace_in trace)
  pub size : n ≡ requests_at trace
  pub price : fill ≡ fill_at trace
  pub next : List ℕ
  pub prev : List ℕ
  pub nexts : (t : ℕ) → t < requests_at trace → get_or next t 0 ≡ next_of (trace_in trace).reqs t
  pub prevs : (t : ℕ) → t < requests_at trace → get_or prev t 0 ≡ prev_of (trace_in trace).reqs t
  pub sources : (u kind : ℕ) → u < suc (2 * n) → kind < 3 → get_or from (3 * u + kind) 0 ≡ source_by n next prev u kind
  pub charged : (t : ℕ) → t < requests_at trace → get_or charges t 0 ≡ charge_at trace t

-- the worth of point g
abbrev pub points_in : List ℕ → (g : ℕ) → ℕ
points_in worth g = get_or worth g 0

-- the worth of holding request t's item after it, in a trace of n requests
abbrev pub requests_in : (n : ℕ) → List ℕ → (t : ℕ) → ℕ
requests_in n worth t = get_or worth (n + 1 + t) 0

-- flags and worths that fit together at k slots
pub record Fits (tr : Trace) (k : ℕ) (flags worth : List ℕ) : Type 0 where
  pub sound : Sound tr k (flags_in flags) (points_in worth) (requests_in (count tr) worth)
  pub bounded : Bounded tr (points_in worth) (requests_in (count tr) worth)
  pub values : (t : ℕ) → get_or flags t 0 ≤ 1
