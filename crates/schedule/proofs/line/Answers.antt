use mathlib.Core.Path.{refl, ◌∙◌}
use Rattle.replay.proofs.Steps.{as_number}
use Rattle.sentences.proofs.Fitting.{laid_whole}
use Rattle.schedule.proofs.line.Goals as goal

pub returns : goal.returns
returns c =
    let s = c.args.s in
    let write = c.from.ensures ∙ as_number s.write s.write refl in
    let before = c.from-2.ensures ∙ as_number s.before s.before refl in
    let after = c.from-3.ensures ∙ as_number s.after s.after refl in
    rw (← write, ← before, ← after, ← c.word.ensures) (laid_whole refl c.lay.ensures)
