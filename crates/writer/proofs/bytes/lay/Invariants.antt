-- The loop's invariant: the bytes laid so far stand from place `at` on.
use mathlib.Core.Path.{◌≡◌}
use lib.ListN.{take}
use lib.Seq.{sets}
use Rattle.writer.proofs.bytes.lay.Given as goal

abbrev pub invariant-loop-i : goal.invariant-loop-i
invariant-loop-i l = l.buffer ≡ sets l.initial.buffer l.at (take l.i l.bytes)
