use Rattle.std.proofs.Common.{◌≡◌, ◌-◌}
use Rattle.trace.specs.TraceFile.{records_tried}
use Rattle.trace.proofs.rows.records.Given as goal

abbrev pub invariant-loop-t : goal.invariant-loop-t
invariant-loop-t l = records_tried (l.n - l.t) l.t l.trace ≡ records_tried l.n 0 l.trace
