-- `gather` meets its contract: `Gathering` says what stands in front after each place. Assumes nothing.
use Prim.Native.Nat.{◌≤◌}
use Rattle.frontier.proofs.Turns.{Gathering}
use Rattle.frontier.proofs.gather.Given as goal

abbrev pub invariant-loop-v : goal.invariant-loop-v
invariant-loop-v l = (l.top ≤ l.v-index) × Gathering l.dist l.list l.low l.initial.stack l.v-index l.stack l.top
