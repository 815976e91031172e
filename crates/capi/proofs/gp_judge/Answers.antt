use Rattle.audit.specs.Audit.{plan_cost}
use Rattle.capi.proofs.Small.{answer_coded, judge_small}
use Rattle.capi.proofs.gp_judge.Goals as goal

pub coded-requires : goal.coded-requires
coded-requires c =
    answer_coded (plan_cost c.args.trace.now c.args.plan.now) c.judge.result (judge_small c.args.trace.now c.args.plan.now) c.judge.ensures
