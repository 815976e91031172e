-- What the output is handed. Assumes nothing.
use Rattle.std.specs.Prelude.{◌≡◌, ℕ, ◌≤◌, List, length}
use Rattle.model.specs.Refusals.{passes}
use Rattle.trace.specs.TraceFile.{requests_at, trace_tried}
use Rattle.plan.specs.PlanFile.{shape_of, length_of}
use Rattle.opening.specs.Opened as opened

-- a sound trace, the lists that were filled for it, and a buffer with room for its plan
pub record Ready (trace from charges worth buffer : List ℕ) : Type 0 where
  pub sound : trace_tried trace ≡ passes
  pub from₀ : List ℕ
  pub charges₀ : List ℕ
  pub worth₀ : List ℕ
  pub lists : opened.Lists trace from₀ charges₀ worth₀ from charges worth
  pub worth_long : length worth ≡ 2050
  pub room : length_of (shape_of (requests_at trace)) ≤ length buffer
