use mathlib.Core.Path.{refl}
use mir.Facts.{to_z-of_z}
use mir.Syntax.{w64}
use Rattle.pages.proofs.Laws.{lies_as}
use Rattle.sentences.proofs.Fitting.{laid_whole}
use Rattle.answers.proofs.Floors.{negative, not_negative}
use Rattle.answers.proofs.signed.Goals as goal

pub returns-then-floor-lt0 : goal.returns-then-floor-lt0
returns-then-floor-lt0 c =
    let z = to_z-of_z {w = w64} {z = c.args.floor} c.ranges.floor in
    let size = rw z at c.unsigned_abs-size.ensures.value in
    let below = rw z at c.if-floor-lt0.true in
    lies_as (negative c.args.floor _ size below) (laid_whole refl c.lay.ensures)

pub returns : goal.returns
returns c =
    let z = to_z-of_z {w = w64} {z = c.args.floor} c.ranges.floor in
    let size = rw z at c.unsigned_abs-size.ensures.value in
    let above = rw z at c.if-floor-lt0.false in
    lies_as (not_negative c.args.floor _ size above) (laid_whole refl c.lay-2.ensures)
