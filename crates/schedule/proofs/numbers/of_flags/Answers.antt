use mathlib.Core.Path.{ap}
use Rattle.replay.specs.Replay.{Totals}
use Rattle.schedule.proofs.Steps.{step_is}
use Rattle.schedule.proofs.numbers.of_flags.Goals as goal

pub returns : goal.returns
returns c =
    step_is c.requires c.args.rent
    c.is_write-write.ensures
    c.cost-cost.ensures.0
    c.fill.ensures.0
    c.item.ensures.0
    c.slots.ensures.0
    c.within.ensures
    c.held-before.ensures
    c.flag-after.ensures
    c.row_of-row.ensures
    (ap (λ (q : Totals). q.total) c.paid_of-paid.ensures)
