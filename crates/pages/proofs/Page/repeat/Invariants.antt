-- The loop's invariant: what is left of the count decides.
use mathlib.Core.Path.{◌≡◌}
use Prim.Native.Nat.{◌-◌}
use lib.ListN.{replicate}
use Rattle.pages.specs.Pages.{write}
use Rattle.pages.specs.Lent.{laid}
use Rattle.pages.proofs.Page.repeat.Given as goal

abbrev pub invariant-loop : goal.invariant-loop
invariant-loop l =
    record {
      same : l.self.bytes.ghost_name ≡ l.initial.self.bytes.ghost_name;
      left : write (laid l.self) (replicate (l.count - l.counter) l.b) ≡ write (laid l.initial.self) (replicate l.count l.b);
    }
