use Rattle.trace.proofs.Records.{record_then}
use Rattle.std.proofs.Common.{Ok}
use Rattle.model.specs.Refusals.{said}
use Rattle.trace.proofs.rows.records.Goals as goal

-- the record passes, so what the later ones come to is what all come to
pub loop-t-preserved : goal.loop-t-preserved
loop-t-preserved c =
    record_then c.args.trace.now c.requests-n.result c.loop-t.t (said (Ok c.in_ok-one.field-0)) _ c.loop-t-test.true c.in_ok-one.ensures c.loop-t.invariant
