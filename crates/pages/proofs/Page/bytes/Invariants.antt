-- The loop's invariant: what is left of the bytes decides.
use mathlib.Core.Path.{◌≡◌}
use lib.ListN.{drop}
use Rattle.pages.specs.Pages.{write}
use Rattle.pages.specs.Lent.{laid}
use Rattle.pages.proofs.Page.bytes.Given as goal

abbrev pub invariant-loop-b : goal.invariant-loop-b
invariant-loop-b l =
    record {
      same : l.self.bytes.ghost_name ≡ l.initial.self.bytes.ghost_name;
      left : write (laid l.self) (drop l.b-index l.s) ≡ write (laid l.initial.self) l.s;
    }
