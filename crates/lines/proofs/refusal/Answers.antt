use mathlib.Core.Path.{◌∙◌, ap}
use native.Mathlib.Omega.{arith}
use Rattle.decimal.specs.Decimal.{decimal}
use Rattle.pages.specs.Letters.{letters}
use Rattle.pages.specs.Pages.{put, write}
use Rattle.lines.specs.Lines.{refused_line}
use Rattle.lines.proofs.Laws.{five_runs}
use Rattle.lines.proofs.refusal.Goals as goal

pub returns : goal.returns
unfolding refused_line
returns c =
    let a = c.args in
    five_runs a.line.now _ _ a.number a.place (letters "refused ") (letters " at ")
    (omega arith) (omega arith) (omega arith) (omega arith) (omega arith)
    (c.byte.ensures.page
    ∙ ap (λ p. put p 10)
    (c.lay-2.ensures.page
    ∙ ap (λ p. write p (decimal a.place))
    (c.bytes-2.ensures.page
    ∙ ap (λ p. write p (letters " at "))
    (c.lay.ensures.page
    ∙ ap (λ p. write p (decimal a.number))
    (c.bytes.ensures.page ∙ ap (λ p. write p (letters "refused ")) c.new-page.ensures.page)))))
