use mathlib.Core.Path.{refl}
use Rattle.sentences.proofs.Fitting.{laid_whole}
use Rattle.sentences.proofs.Answering.{fine_page}
use Rattle.answers.specs.Answers.{totals_page}
use Rattle.answers.proofs.audited.Goals as goal

pub returns-in-Ok : goal.returns-in-Ok
returns-in-Ok c = fine_page _ totals_page c.in-Ok.ensures (laid_whole refl c.lay.ensures)
