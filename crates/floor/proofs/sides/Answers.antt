use mathlib.Core.Path.{◌≡◌, sym, ◌∙◌}
use lib.ListN.{length}
use Rattle.std.proofs.lemmas.Result.{err_from_is_err_and}
use Rattle.model.specs.Refusals.{passes}
use Rattle.model.proofs.Refusals.{answer_refused}
use Rattle.trace.specs.TraceFile.{requests_at, trace_tried}
use Rattle.trace.specs.Answers.{header_in}
use Rattle.plan.specs.PlanFile.{rents_tried}
use Rattle.replay.proofs.Answered.{check_passes, check_counts}
use Rattle.floor.proofs.Answers.{tried_trace, tried-count, tried-rents, ready}
use Rattle.floor.proofs.sides.Goals as goal
use Rattle.floor.proofs.sides.Goals.{In_ok-header, Else-rents-header, In_ok-check_rents}

-- the trace is sound
sound : (c : In_ok-header) → trace_tried c.args.trace.now ≡ passes
sound c = check_passes _ _ c.in_ok-header.ensures.answer

-- there is a rent for each request
count : (c : Else-rents-header) → length c.args.rents.now ≡ requests_at c.args.trace.now
count c = c.if-rents-header.false ∙ check_counts _ _ c.in_ok-header.ensures.answer

-- and none of them is too large
rents : (c : In_ok-check_rents) → rents_tried 0 c.args.rents.now ≡ passes
rents c = sym c.in_ok-check_rents.ensures

pub returns-in_err-header : goal.returns-in_err-header
returns-in_err-header c =
    let tr = c.args.trace.now in
    let p = err_from_is_err_and c.from_residual.result c.from_residual.ensures.1 in
    let e = answer_refused (trace_tried tr) (header_in tr) _ _ c.in_err-header.ensures.answer in
    rw (p.1, p.2, tried_trace tr c.args.rents.now _ _ e)

pub returns-then-rents-header : goal.returns-then-rents-header
returns-then-rents-header c =
    rw (tried-count _ _ (sound (goal.at.returns-then-rents-header c).In_ok-header)
    (λ q. c.if-rents-header.true (q ∙ sym (check_counts _ _ c.in_ok-header.ensures.answer))))

pub returns-in_err-check_rents : goal.returns-in_err-check_rents
returns-in_err-check_rents c =
    let p = err_from_is_err_and c.from_residual-in_err-check_rents.result c.from_residual-in_err-check_rents.ensures.1 in
    rw (p.1, p.2, tried-rents _ _ (sound (goal.at.returns-in_err-check_rents c).In_ok-header) (count (goal.at.returns-in_err-check_rents c).Else-rents-header), ← c.in_err-check_rents.ensures)

pub both-requires : goal.both-requires
both-requires c =
    rw c.in_ok-header.ensures.nexts (ready _ _ (sound (goal.at.both-requires c).In_ok-header) _ (count (goal.at.both-requires c).Else-rents-header) (rents (goal.at.both-requires c).In_ok-check_rents))

pub returns : goal.returns
returns c =
    rw (tried-rents _ _ (sound (goal.at.returns c).In_ok-header) (count (goal.at.returns c).Else-rents-header), rents (goal.at.returns c).In_ok-check_rents, c.both.ensures)
