use mathlib.Core.Path.{refl}
use Rattle.sentences.proofs.Fitting.{laid_whole}
use Rattle.sentences.proofs.Answering.{fine_page}
use Rattle.answers.specs.Answers.{gap_page}
use Rattle.answers.proofs.Ratios.{quotient_least}
use Rattle.answers.proofs.rated.Goals as goal

pub quotient-requires : goal.quotient-requires
quotient-requires c =
    let e = rw c.in-Ok-Ratio.field-0-is at c.in-Ok-Ratio.ensures in
    quotient_least c.args.least c.args.measured _ e

pub returns-in-Ok-NoCost : goal.returns-in-Ok-NoCost
returns-in-Ok-NoCost c =
    let e = rw c.in-Ok-NoCost.field-0-is at c.in-Ok-NoCost.ensures in
    fine_page _ (gap_page c.args.least c.args.measured) e (laid_whole refl c.lay.ensures)

pub returns-in-Ok-NoRatio : goal.returns-in-Ok-NoRatio
returns-in-Ok-NoRatio c =
    let e = rw c.in-Ok-NoRatio.field-0-is at c.in-Ok-NoRatio.ensures in
    fine_page _ (gap_page c.args.least c.args.measured) e (laid_whole refl c.lay-in-Ok-NoRatio.ensures)
