use mathlib.Core.Path.{◌∙◌}
use Rattle.pages.proofs.Laws.{repeat_more}
use Rattle.pages.proofs.Page.repeat.Goals as goal

pub loop-preserved : goal.loop-preserved
loop-preserved c =
    let l = c.loop.invariant in
    let b = c.byte.ensures in
    record { same = b.same ∙ l.same; left = repeat_more _ _ _ _ _ _ c.loop-test.true b.page l.left }
