-- What `fill` keeps: the bytes so far lie within the buffer, whose length stays, and are those that the reader gave. Each turn
-- leaves less room.
use Rattle.std.proofs.Common.{length, take, ◌-◌, ◌≡◌, ◌≤◌}
use Rattle.std.specs.Io.KnownBytes.{Consumes}
use Rattle.disk.proofs.System.fill.Given as goal

abbrev pub invariant-loop-done : goal.invariant-loop-done
invariant-loop-done g l =
    (length l.buf ≡ length l.fn.buf) × (l.done ≤ length l.buf)
    × Consumes (g.I.Read.remaining l.fn.input) (g.I.Read.remaining l.input) (take l.done l.buf)

abbrev pub decreases-loop-done : goal.decreases-loop-done
decreases-loop-done g l = length l.initial.buf - l.done
