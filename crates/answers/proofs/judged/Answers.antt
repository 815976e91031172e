use mathlib.Core.Path.{refl}
use Rattle.sentences.proofs.Fitting.{laid_whole}
use Rattle.sentences.proofs.Answering.{fine_page}
use Rattle.answers.specs.Answers.{accepted_page}
use Rattle.answers.proofs.judged.Goals as goal

pub returns-in-Ok : goal.returns-in-Ok
returns-in-Ok c = fine_page _ accepted_page c.in-Ok.ensures (laid_whole refl c.lay.ensures)
