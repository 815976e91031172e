use borrow.Author.Rules.{rules}
use mathlib.Core.Path.{◌≡◌}
use native.Mathlib.Omega.{arith}
use Rattle.replay.specs.Linked.{Adds}
use Rattle.replay.proofs.Counting.{none_yet, totals_start, totals_next, totals_add, totals_end}
use Rattle.replay.proofs.rows.Sound.totals.Goals as goal
use Rattle.replay.proofs.rows.Sound.totals.Goals.{After-paid-paid}

-- what is counted and what request t pays stay within the limits
adds : (c : After-paid-paid) → Adds c.loop-t.sum c.paid-paid.result
adds c = rw c.paid-paid.ensures (totals_add c.args.self.now.linked.back c.loop-t.invariant c.loop-t-test.true)

pub loop-t-init : goal.loop-t-init
loop-t-init c =
    let e : c.default-sum.result ≡ none_yet = search rules in
    rw e (totals_start c.args.self.now.linked.back)

pub overflow_add-sum : goal.overflow_add-sum
overflow_add-sum c = omega (arith, adds (goal.at.overflow_add-sum c).After-paid-paid)

pub overflow_add-sum-in-loop-t : goal.overflow_add-sum-in-loop-t
overflow_add-sum-in-loop-t c = omega (arith, adds (goal.at.overflow_add-sum-in-loop-t c).After-paid-paid)

pub overflow_add-sum-in-loop-t-2 : goal.overflow_add-sum-in-loop-t-2
overflow_add-sum-in-loop-t-2 c = omega (arith, adds (goal.at.overflow_add-sum-in-loop-t-2 c).After-paid-paid)

pub overflow_add-sum-in-loop-t-3 : goal.overflow_add-sum-in-loop-t-3
overflow_add-sum-in-loop-t-3 c = omega (arith, adds (goal.at.overflow_add-sum-in-loop-t-3 c).After-paid-paid)

pub loop-t-preserved : goal.loop-t-preserved
loop-t-preserved c = totals_next c.args.self.now.linked.back c.loop-t.invariant c.loop-t-test.true c.paid-paid.ensures

pub returns : goal.returns
returns c = totals_end c.args.self.now.linked.back c.loop-t.invariant c.loop-t-test.false
