-- The loop's invariant: the bytes of the rents laid so far stand from place `at` on.
use mathlib.Core.Path.{◌≡◌}
use lib.ListN.{take}
use lib.Seq.{sets}
use Rattle.fields.specs.Bytes.{bytes_of_all}
use Rattle.writer.proofs.bytes.lay_rents.Given as goal

abbrev pub invariant-loop-t : goal.invariant-loop-t
invariant-loop-t l = l.buffer ≡ sets l.initial.buffer l.at (bytes_of_all 4 (take l.t l.rents))
