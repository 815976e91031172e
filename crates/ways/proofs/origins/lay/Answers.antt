use borrow.Author.Rules.{rules}
use native.Mathlib.Omega.{arith}
use Rattle.ways.proofs.Rows.{laying_start, laying_turn, laying_end}
use Rattle.ways.proofs.Steps.{point_named, last_named, request_named}
use Rattle.ways.specs.Ways.{point_source, request_source}
use Rattle.ways.proofs.origins.lay.Goals as goal

pub loop-t-init : goal.loop-t-init
loop-t-init c =
    let a = c.args in
    laying_start (point_source a.n) (request_source a.n a.next.now a.prev.now) a.n a.from.now (search rules)

pub loop-t-preserved : goal.loop-t-preserved
loop-t-preserved c =
    let a = c.args in
    let l = c.loop-t in
    laying_turn (point_source a.n) (request_source a.n a.next.now a.prev.now) a.n a.from.now l.from _ _ l.t _ _ _ _ _ _ l.invariant c.loop-t-test.true
    (point_named a.next.now a.prev.now a.n l.t _ _ _ c.loop-t-test.true (omega arith) (omega arith) c.saturating_sub.ensures)
    (request_named a.next.now a.prev.now a.n l.t _ _ _ _ _ (omega arith) (omega arith) c.node.ensures c.node-in-loop-t.ensures (omega arith))
    c.put.ensures c.put-in-loop-t.ensures

pub returns : goal.returns
returns c =
    let a = c.args in
    let l = c.loop-t in
    laying_end (point_source a.n) (request_source a.n a.next.now a.prev.now) a.n a.from.now l.from _ l.t _ _ _ l.invariant c.loop-t-test.false
    (last_named a.next.now a.prev.now a.n _ _ _ (omega arith) (omega arith) c.saturating_sub-2.ensures) c.put-2.ensures
