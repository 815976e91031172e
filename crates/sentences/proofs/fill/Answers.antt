use borrow.Author.Rules.{rules}
use Rattle.pages.proofs.Laws.{cut}
use Rattle.sentences.proofs.fill.Goals as goal

pub returns : goal.returns
returns c = cut _ _ _ _ (search rules)
