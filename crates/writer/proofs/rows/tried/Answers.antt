use mathlib.Core.Path.{◌≡◌, ◌∙◌, sym}
use lib.ListN.{length}
use Rattle.std.proofs.lemmas.Result.{err_from_is_err_and}
use Rattle.trace.specs.TraceFile.{requests_at}
use Rattle.writer.proofs.Answered.{trace_off, list_off, rents_off, replay-off, room-off, write_done}
use Rattle.writer.proofs.rows.tried.Goals as goal
use Rattle.writer.proofs.rows.tried.Goals.{Then-rents-requests, Else-rents-requests}

-- there is not a rent for each request
off : (c : Then-rents-requests) → length c.args.rents.now ≡ requests_at c.args.trace.now → ⊥
off c = λ e. c.if-rents-requests.true (e ∙ sym c.requests.ensures.0)

-- or there is
on : (c : Else-rents-requests) → length c.args.rents.now ≡ requests_at c.args.trace.now
on c = c.if-rents-requests.false ∙ c.requests.ensures.0

pub returns-in_err-check : goal.returns-in_err-check
returns-in_err-check c =
    let a = c.args in
    let p = err_from_is_err_and c.from_residual.result c.from_residual.ensures.1 in
    rw (p.1, p.2) (rents_off a.trace.now a.flags.now a.rents.now a.room _ _ (off (goal.at.returns-in_err-check c).Then-rents-requests)
    (trace_off a.trace.now _ _ c.in_err-check.ensures))

pub returns-then-rents-requests : goal.returns-then-rents-requests
returns-then-rents-requests c =
    let a = c.args in
    rents_off a.trace.now a.flags.now a.rents.now a.room _ _ (off (goal.at.returns-then-rents-requests c).Then-rents-requests)
    (list_off a.trace.now _ c.in_ok-check.ensures)

pub returns-in_err-totals : goal.returns-in_err-totals
returns-in_err-totals c =
    let a = c.args in
    let p = err_from_is_err_and c.from_residual-in_err-totals.result c.from_residual-in_err-totals.ensures.1 in
    rw (p.1, p.2) (replay-off a.trace.now a.flags.now a.rents.now a.room (on (goal.at.returns-in_err-totals c).Else-rents-requests) _ _ c.in_err-totals.ensures)

pub returns-in_err-room : goal.returns-in_err-room
returns-in_err-room c =
    let a = c.args in
    let p = err_from_is_err_and c.from_residual-in_err-room.result c.from_residual-in_err-room.ensures.1 in
    rw (p.1, p.2) (room-off a.trace.now a.flags.now a.rents.now a.room (on (goal.at.returns-in_err-room c).Else-rents-requests) _
    c.in_ok-totals.ensures _ _ c.in_err-room.ensures)

pub returns : goal.returns
returns c =
    let a = c.args in
    write_done a.trace.now a.flags.now a.rents.now a.room (on (goal.at.returns c).Else-rents-requests) _ c.in_ok-totals.ensures c.in_ok-room.ensures
