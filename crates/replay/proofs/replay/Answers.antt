use mathlib.Core.Path.{◌≡◌, sym, ◌∙◌}
use lib.ListN.{length}
use Rattle.std.proofs.lemmas.Result.{err_from_is_err_and}
use Rattle.model.specs.Refusals.{passes}
use Rattle.trace.specs.TraceFile.{requests_at, trace_tried}
use Rattle.replay.proofs.Answered.{check_passes, check_counts, filled_forward, trace_off, count-off, flags-off, replay-done}
use Rattle.replay.proofs.replay.Goals as goal
use Rattle.replay.proofs.replay.Goals.{Else-flags-header, In_ok-header}

-- where the trace is sound
passed : (c : In_ok-header) → trace_tried c.args.trace.now ≡ passes
passed c = check_passes _ _ c.in_ok-header.ensures.answer

-- where there are as many flags as requests
counted : (c : Else-flags-header) → length c.args.flags.now ≡ requests_at c.args.trace.now
counted c = c.if-flags-header.false ∙ check_counts _ _ c.in_ok-header.ensures.answer

pub returns-in_err-header : goal.returns-in_err-header
returns-in_err-header c =
    let p = err_from_is_err_and c.from_residual.result c.from_residual.ensures.1 in
    rw (p.1, p.2) (trace_off c.args.trace.now c.args.flags.now _ _ c.in_err-header.ensures.answer)

pub returns-then-flags-header : goal.returns-then-flags-header
returns-then-flags-header c =
    count-off c.args.trace.now c.args.flags.now (passed (goal.at.returns-then-flags-header c).In_ok-header)
    (λ e. c.if-flags-header.true (e ∙ sym (check_counts _ _ c.in_ok-header.ensures.answer)))

pub invariant_of-sound : goal.invariant_of-sound
invariant_of-sound c =
    record { linked = filled_forward c.in_ok-header.ensures (passed (goal.at.invariant_of-sound c).In_ok-header) (counted (goal.at.invariant_of-sound c).Else-flags-header) }

pub returns-in_err-tried : goal.returns-in_err-tried
returns-in_err-tried c =
    let p = err_from_is_err_and c.from_residual-in_err-tried.result c.from_residual-in_err-tried.ensures.1 in
    rw (p.1, p.2) (flags-off c.args.trace.now c.args.flags.now (passed (goal.at.returns-in_err-tried c).In_ok-header)
    (counted (goal.at.returns-in_err-tried c).Else-flags-header) _ _ c.in_err-tried.ensures)

pub returns : goal.returns
returns c =
    replay-done c.args.trace.now c.args.flags.now (passed (goal.at.returns c).In_ok-header) (counted (goal.at.returns c).Else-flags-header) _
    c.in_ok-tried.ensures c.totals.ensures
