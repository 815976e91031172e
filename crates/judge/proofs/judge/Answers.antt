use mathlib.Core.Path.{◌≡◌, ap}
use native.Mathlib.Omega.{arith}
use lib.ListN.{take}
use Prim.Native.Nat.{ℕ}
use Rattle.std.proofs.lemmas.Result.{err_from_is_err_and}
use Rattle.model.specs.Refusals.{passes, refusal, fine, refused}
use Rattle.model.proofs.Refusals.{answer_fine, answer_refused}
use Rattle.trace.specs.TraceFile.{trace_in}
use Rattle.replay.specs.Replay.{Totals, totals_of}
use Rattle.audit.specs.Audit.{plan_flags, plan_rents, plan_cost, audit_tried}
use Rattle.judge.specs.Judge.{judge_tried}
use Rattle.judge.proofs.Passes.{audit_sound}
use Rattle.judge.proofs.Sides.{sides_known, sides_decide}
use Rattle.judge.proofs.judge.Goals as goal
use Rattle.judge.proofs.judge.Goals.{In_ok-totals, After-rents-n}

-- where rows 1 to 17 pass, the total is the plan's cost
audited : (c : In_ok-totals) → (audit_tried c.args.trace.now c.args.plan.now ≡ passes) × (c.in_ok-totals.totals.total ≡ plan_cost c.args.trace.now c.args.plan.now)
audited c =
    let tr = c.args.trace.now in
    let pl = c.args.plan.now in
    let k = answer_fine (audit_tried tr pl) (totals_of (trace_in tr) (plan_flags tr pl)) c.in_ok-totals.totals c.in_ok-totals.ensures in
    (k.0, ap (λ (s : Totals). s.total) k.1)

-- and the rents that are lent are the plan's
lent : (c : After-rents-n) → audit_tried c.args.trace.now c.args.plan.now ≡ passes → take c.rents-n.result c.rents-n.new.room ≡ plan_rents c.args.trace.now c.args.plan.now
lent c a = c.rents-n.ensures.sound (audit_sound _ _ a).section

pub returns-in_err-totals : goal.returns-in_err-totals
unfolding judge_tried
returns-in_err-totals c =
    let tr = c.args.trace.now in
    let pl = c.args.plan.now in
    let p = err_from_is_err_and c.from_residual.result c.from_residual.ensures.1 in
    let e : audit_tried tr pl ≡ refusal _ _ =
    answer_refused (audit_tried tr pl) (totals_of (trace_in tr) (plan_flags tr pl)) _ _ c.in_err-totals.ensures in
    rw (p.1, p.2, e)

pub returns-in_err-sides : goal.returns-in_err-sides
returns-in_err-sides c =
    let tr = c.args.trace.now in
    let pl = c.args.plan.now in
    let a = (audited (goal.at.returns-in_err-sides c).In_ok-totals).0 in
    let e : refused _ _ ≡ fine _ = sides_known tr pl (audit_sound tr pl a) _ _ (lent (goal.at.returns-in_err-sides c).After-rents-n a) c.in_err-sides.ensures in
    let z : ◌≡◌ {A = ℕ} 0 1 = cc in
    absurd (omega arith)

pub returns : goal.returns
returns c =
    let tr = c.args.trace.now in
    let pl = c.args.plan.now in
    let (a, q) = audited (goal.at.returns c).In_ok-totals in
    let k = sides_known tr pl (audit_sound tr pl a) _ _ (lent (goal.at.returns c).After-rents-n a) c.in_ok-sides.ensures in
    sides_decide tr pl a _ _ _ k q c.compared.ensures
