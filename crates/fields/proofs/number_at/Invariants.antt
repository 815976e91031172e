-- The loop's invariant: the highest bytes passed, as a number.
use Rattle.std.proofs.Common.{◌≡◌, ◌+◌, ◌-◌, ◌^◌, ◌<◌}
use Rattle.fields.specs.Bytes.{num_at}
use Rattle.fields.proofs.number_at.Given as goal

abbrev pub invariant-loop-passed : goal.invariant-loop-passed
invariant-loop-passed g l =
    record {
      passed : l.number ≡ num_at l.passed (l.at + (l.size - l.passed)) l.s;
      fits : l.number < 256 ^ l.passed;
    }
