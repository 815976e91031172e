-- The loop's invariant: so many decimals are found, and what is left of the division.
use Prim.Native.Nat.{◌%◌}
use Rattle.floats.proofs.Division.{Divided}
use Rattle.floats.proofs.digits.of_fraction.Given as goal

abbrev pub invariant-loop : goal.invariant-loop
invariant-loop l = Divided (l.a % l.one) l.one l.counter l.parts l.rest
