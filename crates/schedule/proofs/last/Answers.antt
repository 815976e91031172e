use mathlib.Core.Path.{refl}
use Rattle.sentences.proofs.Fitting.{laid_whole}
use Rattle.sentences.proofs.Answering.{fine_page}
use Rattle.schedule.specs.Schedule.{totals_line}
use Rattle.schedule.proofs.last.Goals as goal

pub returns-in-Ok : goal.returns-in-Ok
returns-in-Ok c = fine_page _ totals_line c.in-Ok.ensures (laid_whole refl c.lay.ensures)
