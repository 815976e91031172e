use mathlib.Core.Path.{refl}
use Rattle.sentences.proofs.Fitting.{laid_whole}
use Rattle.answers.proofs.quotient.Goals as goal

pub returns : goal.returns
returns c = rw (← c.cut-float.ensures) (laid_whole refl c.lay.ensures)
