use native.Mathlib.Omega.{arith}
use Rattle.schedule.proofs.Counting.{counting_begins, counting_less, counting_on, counting_ends}
use Rattle.schedule.proofs.numbers.within.Goals as goal

pub loop-s-init : goal.loop-s-init
loop-s-init c = counting_begins _ _

pub overflow_sub-count : goal.overflow_sub-count
overflow_sub-count c =
    counting_less c.requires c.loop-s.invariant (omega arith) c.from.ensures c.flag.ensures c.from-in-loop-s.ensures c.held.ensures

pub loop-s-preserved : goal.loop-s-preserved
loop-s-preserved c =
    counting_on c.requires c.loop-s.invariant (omega arith) c.from.ensures c.flag.ensures c.from-in-loop-s.ensures c.held.ensures

pub returns : goal.returns
returns c = counting_ends c.loop-s.invariant (omega arith)

pub returns-2 : goal.returns-2
returns-2 c =
    counting_ends (counting_on c.requires c.loop-s.invariant (omega arith) c.from.ensures c.flag.ensures c.from-in-loop-s.ensures c.held.ensures) (omega arith)
