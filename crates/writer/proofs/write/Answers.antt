use Rattle.writer.proofs.Answered.{room-there, filled}
use Rattle.writer.proofs.write.Goals as goal

pub plan-requires : goal.plan-requires
plan-requires c =
    let a = c.args in
    room-there a.trace.now a.flags.now a.rents.now a.buffer.now _ c.in_ok-cost.ensures

pub returns : goal.returns
returns c =
    let a = c.args in
    let e = c.in_ok-cost.ensures in
    record { answer = e; held = filled a.trace.now a.flags.now a.rents.now a.buffer.now _ e _ c.plan.ensures }
