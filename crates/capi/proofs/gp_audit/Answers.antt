use mathlib.Core.Path.{◌∙◌}
use Rattle.trace.specs.TraceFile.{trace_in}
use Rattle.replay.specs.Replay.{totals_of}
use Rattle.audit.specs.Audit.{plan_flags}
use Rattle.capi.proofs.Small.{answer_coded, audit_small}
use Rattle.capi.proofs.Mapped.{listed_coded, listed_totals}
use Rattle.capi.proofs.gp_audit.Goals as goal

pub coded-requires : goal.coded-requires
coded-requires c =
    let a = c.args in
    let e = answer_coded (totals_of (trace_in a.trace.now) (plan_flags a.trace.now a.plan.now)) c.audit.result (audit_small a.trace.now a.plan.now) c.audit.ensures in
    listed_coded c.audit.result c.map.result c.map.ensures.cases e

pub returns-clause-totals_after : goal.returns-clause-totals_after
returns-clause-totals_after c =
    rw (← c.audit.ensures) (c.coded.ensures.out_after ∙ listed_totals c.audit.result c.map.result c.args.totals.now c.map.ensures.cases)
