-- `sift` meets its contract: `Keeping` says what stands in front after each place. Assumes nothing.
use Prim.Native.Nat.{◌≤◌}
use Rattle.frontier.proofs.Turns.{Keeping}
use Rattle.frontier.proofs.sift.Given as goal

abbrev pub invariant-loop-i : goal.invariant-loop-i
invariant-loop-i l = (l.kept ≤ l.i) × Keeping l.dist l.initial.list l.current l.i l.list l.kept l.low
