use mathlib.Core.Path.{refl}
use borrow.Author.Tests.{eq-eqb, ne_eqb}
use Rattle.sentences.proofs.Fitting.{laid_whole}
use Rattle.sentences.proofs.crowded.Goals as goal

pub returns-then-slots-eq1 : goal.returns-then-slots-eq1
returns-then-slots-eq1 c = rw (eq-eqb _ _ c.if-slots-eq1.true) (laid_whole refl c.lay.ensures)

pub returns : goal.returns
returns c = rw (ne_eqb _ _ c.if-slots-eq1.false) (laid_whole refl c.lay-2.ensures)
