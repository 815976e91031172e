-- The cost has its page.
use Rattle.std.proofs.Common.{refl}
use Rattle.sentences.proofs.Fitting.{laid_whole}
use Rattle.glazepouch.proofs.said.lay_least.Goals as goal

pub returns-in-Ok : goal.returns-in-Ok
returns-in-Ok c = rw c.in-Ok.is (laid_whole refl c.lay.ensures)
