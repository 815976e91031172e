use mathlib.Core.Path.{◌∙◌}
use Rattle.schedule.proofs.Steps.{plan_linked, plan_rent, step_of_plan}
use Rattle.schedule.proofs.numbers.of_plan.Goals as goal

pub of_flags-requires : goal.of_flags-requires
of_flags-requires c =
    plan_linked c.args.trace.now c.args.plan.now c.args.t c.requires c.fill.ensures c.flags.ensures

pub returns : goal.returns
returns c =
    let rent = plan_rent c.args.trace.now c.args.plan.now c.args.t c.requires c.rents.ensures c.rent.ensures.0 in
    c.of_flags.ensures ∙ step_of_plan c.args.trace.now c.args.plan.now c.args.t c.requires c.flags.ensures rent
