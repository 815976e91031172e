use native.Mathlib.Omega.{arith}
use Rattle.decimal.proofs.Laws.{at_most_twenty}
use Rattle.sentences.proofs.Pen.column.Goals as goal

pub overflow_add-needed : goal.overflow_add-needed
overflow_add-needed c = omega (arith, c.count.ensures, at_most_twenty c.args.n (omega arith), c.requires.over)
