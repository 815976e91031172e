-- The loop's invariant: row 17 for the rents still to try comes to what it comes to for all.
use mathlib.Core.Path.{◌≡◌}
use Prim.Native.Nat.{◌≤◌}
use lib.ListN.{length, drop}
use Rattle.plan.specs.PlanFile.{rents_tried}
use Rattle.plan.proofs.check_rents.Given as goal

abbrev pub invariant-loop-t : goal.invariant-loop-t
invariant-loop-t l = (l.t ≤ length l.rents) × (rents_tried l.t (drop l.t l.rents) ≡ rents_tried 0 l.rents)
