use borrow.Author.Rules.{rules}
use Rattle.ways.proofs.Steps.{lengths-laid}
use Rattle.ways.proofs.lengths.Goals as goal

pub returns-then-n-le-MAX : goal.returns-then-n-le-MAX
returns-then-n-le-MAX c = let a = c.args in lengths-laid a.n a.fill a.k a.from.now a.charges.now a.flags.now a.worth.now a.len.now _ c.if-n-le-MAX.true (search rules) c.lay.ensures
