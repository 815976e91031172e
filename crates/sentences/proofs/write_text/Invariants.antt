-- The loop's invariant: what is left of the text decides.
use mathlib.Core.Path.{◌≡◌}
use Rattle.pages.specs.Lent.{laid}
use Rattle.sentences.proofs.Laying.{Laying}
use Rattle.sentences.proofs.write_text.Given as goal

abbrev pub invariant-loop-i : goal.invariant-loop-i
invariant-loop-i l =
    record {
      same : l.page.bytes.ghost_name ≡ l.initial.page.bytes.ghost_name;
      laying : Laying l.text l.numbers (laid l.initial.page) l.pen l.i (laid l.page);
    }
