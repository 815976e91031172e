use mathlib.Core.Path.{◌≡◌, sym}
use Rattle.std.proofs.lemmas.Result.{err_from_is_err_and}
use Rattle.model.specs.Refusals.{passes, fine}
use Rattle.plan.specs.PlanFile.{section_tried, flags_of}
use Rattle.replay.specs.Replay.{replay_of}
use Rattle.audit.proofs.Answered.{section_off, flags-off, cost-off, rents_off, audit-done}
use Rattle.audit.proofs.audit.Goals as goal
use Rattle.audit.proofs.audit.Goals.{In_ok-check, In_ok-totals}

-- where rows 1 to 12 pass
passed : (c : In_ok-check) → section_tried c.args.trace.now c.args.plan.now ≡ passes
passed c = sym c.in_ok-check.ensures

-- where the replay has totals
done : (c : In_ok-totals) → fine c.in_ok-totals.totals ≡ replay_of c.args.trace.now (flags_of c.args.trace.now c.args.plan.now)
done c = rw c.flags.ensures at c.in_ok-totals.ensures

pub returns-in_err-check : goal.returns-in_err-check
returns-in_err-check c =
    let p = err_from_is_err_and c.from_residual.result c.from_residual.ensures.1 in
    rw (p.1, p.2) (section_off c.args.trace.now c.args.plan.now _ _ c.in_err-check.ensures)

pub returns-in_err-totals : goal.returns-in_err-totals
returns-in_err-totals c =
    let p = err_from_is_err_and c.from_residual-in_err-totals.result c.from_residual-in_err-totals.ensures.1 in
    rw (p.1, p.2) (flags-off c.args.trace.now c.args.plan.now (passed (goal.at.returns-in_err-totals c).In_ok-check) _ _
    (rw c.flags.ensures at c.in_err-totals.ensures))

pub returns-then-stated_cost-totals : goal.returns-then-stated_cost-totals
returns-then-stated_cost-totals c =
    cost-off c.args.trace.now c.args.plan.now (passed (goal.at.returns-then-stated_cost-totals c).In_ok-check) _
    (done (goal.at.returns-then-stated_cost-totals c).In_ok-totals) _ c.stated_cost.ensures c.if-stated_cost-totals.true

pub returns-in_err-check_rents : goal.returns-in_err-check_rents
returns-in_err-check_rents c =
    let h = passed (goal.at.returns-in_err-check_rents c).In_ok-check in
    let p = err_from_is_err_and c.from_residual-in_err-check_rents.result c.from_residual-in_err-check_rents.ensures.1 in
    rw (p.1, p.2) (rents_off c.args.trace.now c.args.plan.now h _ (done (goal.at.returns-in_err-check_rents c).In_ok-totals) _
    c.stated_cost.ensures c.if-stated_cost-totals.false _ _ c.in_err-check_rents.ensures)

pub returns : goal.returns
returns c =
    let h = passed (goal.at.returns c).In_ok-check in
    audit-done c.args.trace.now c.args.plan.now h _ (done (goal.at.returns c).In_ok-totals) _ c.stated_cost.ensures
    c.if-stated_cost-totals.false c.in_ok-check_rents.ensures

pub check_rents-requires : goal.check_rents-requires
check_rents-requires c = passed (goal.at.check_rents-requires c).In_ok-check
