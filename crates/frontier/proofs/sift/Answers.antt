use Prim.Native.Nat.{◌<◌}
use native.Mathlib.Omega.{arith}
use lib.ListN.{length}
use Rattle.frontier.proofs.Turns.{keep_begin, keep_drop, keep_one}
use Rattle.frontier.proofs.sift.Goals as goal
use Rattle.frontier.proofs.sift.Goals.{else-current-d, then-current-d}

pub loop-i-init : goal.loop-i-init
loop-i-init c = (omega arith, rw c.from-low.ensures (keep_begin _ _ _))

pub loop-i-preserved : goal.loop-i-preserved
loop-i-preserved c =
    let S = c.loop-i.invariant.1 in
    let h : c.loop-i.i < length c.args.list.now = grind arith in
    elim c.if-current-d.branch [
      | then-current-d w ↦ rw (w.list-is, w.low-is, w.kept-is) (omega arith, keep_one S h (omega arith) (omega arith))
      | else-current-d w ↦ rw (w.list-is, w.low-is, w.kept-is) (omega arith, keep_drop S h (omega arith))
    ]
