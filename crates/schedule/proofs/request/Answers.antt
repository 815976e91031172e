use Rattle.sentences.proofs.Answering.{fine_page}
use Rattle.schedule.specs.Schedule.{here_line}
use Rattle.schedule.proofs.request.Goals as goal

pub returns-in-Ok-Some : goal.returns-in-Ok-Some
returns-in-Ok-Some c =
    let e = rw c.in-Ok-Some.field-0-is at c.in-Ok-Some.ensures in
    fine_page _ here_line e c.line.ensures
