-- The loop's invariant: the rents read so far stand in the first places, and the rest is kept.
use mathlib.Core.Path.{◌≡◌}
use Prim.Native.Nat.{◌/◌, ◌≤◌, min}
use lib.ListN.{length}
use Rattle.fields.specs.Bytes.{put_front}
use Rattle.model.specs.Links.{listed}
use Rattle.plan.specs.PlanFile.{rent_in}
use Rattle.plan.proofs.read_rents.Given as goal

abbrev pub invariant-loop-t : goal.invariant-loop-t
invariant-loop-t l =
    (l.n ≡ min (length l.part / 4) (length l.initial.out)) × (l.t ≤ l.n) × (l.out ≡ put_front (listed (rent_in l.part) l.t 0) l.initial.out)
