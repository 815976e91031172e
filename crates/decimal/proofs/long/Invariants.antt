-- The loop's invariant: what is left of the text decides.
use Prim.Native.Nat.{◌-◌}
use lib.ListN.{length}
use Rattle.decimal.proofs.Reading.{Reading}
use Rattle.decimal.proofs.long.Given as goal

abbrev pub invariant-loop-d : goal.invariant-loop-d
invariant-loop-d l = Reading l.text l.at l.top l.value l.next

abbrev pub decreases-loop-d : goal.decreases-loop-d
decreases-loop-d l = length l.text - l.next
