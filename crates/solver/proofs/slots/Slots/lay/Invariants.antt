-- The loop's invariant: k slots are laid, and the rents are within the limit.
use Prim.Native.Nat.{◌≤◌}
use Rattle.steps.specs.Slots.{Laid, Cheap}
use Rattle.solver.proofs.slots.Slots.lay.Given as goal

abbrev pub invariant-loop-k : goal.invariant-loop-k
invariant-loop-k l =
    (l.w ≤ 64)
    × Laid l.lists.trace.now l.lists.header.requests l.lists.header.fill l.k l.self.worth l.self.flags l.lists.from.now l.lists.charges.now
    × Cheap l.lists.header.requests l.self.worth
