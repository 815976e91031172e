use borrow.Author.Rules.{rules}
use Rattle.ways.proofs.Steps.{sources-laid}
use Rattle.ways.proofs.sources.Goals as goal

pub returns-then-n-le-MAX : goal.returns-then-n-le-MAX
returns-then-n-le-MAX c = let a = c.args in sources-laid a.next.now a.prev.now a.n a.from.now _ c.if-n-le-MAX.true (search rules) c.lay.ensures
