use mathlib.Core.Path.{refl}
use borrow.Author.Tests.{eq-eqb, ne_eqb}
use Rattle.sentences.specs.Sentences.{refusal_page}
use Rattle.sentences.proofs.Fitting.{laid_whole}
use Rattle.sentences.proofs.sentence.Goals as goal

pub returns-then-number-eq15 : goal.returns-then-number-eq15
unfolding refusal_page
returns-then-number-eq15 c = rw (eq-eqb _ _ c.if-number-eq15.true) c.crowded.ensures

pub returns : goal.returns
unfolding refusal_page
returns c = rw (ne_eqb _ _ c.if-number-eq15.false) (laid_whole refl c.lay.ensures)
