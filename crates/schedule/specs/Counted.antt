-- What the steps towards a line ask of one another.
use Rattle.std.specs.Prelude.{◌≡◌, ℕ, ◌<◌, List}
use Rattle.model.specs.Refusals.{passes}
use Rattle.trace.specs.TraceFile.{requests_at}
use Rattle.replay.specs.Linked.{Backward}
use Rattle.audit.specs.Audit.{audit_tried}

-- request t of a plan that passes the audit
pub record Audited (tr pl : List ℕ) (t : ℕ) : Type 0 where
  pub passed : audit_tried tr pl ≡ passes
  pub inside : t < requests_at tr

-- request t of flags whose previous requests are listed
pub record Linked (tr flags prevs : List ℕ) (t : ℕ) : Type 0 where
  pub back : Backward tr flags prevs
  pub inside : t < requests_at tr
