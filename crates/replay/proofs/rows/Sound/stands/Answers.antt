use mathlib.Core.Path.{sym, ◌∙◌}
use Rattle.replay.proofs.Steps.{stands_hit, stands_on, stands_end}
use Rattle.replay.proofs.rows.Sound.stands.Goals as goal

pub returns-then-stray : goal.returns-then-stray
returns-then-stray c = stands_hit c.args.self.now.linked c.loop-t.invariant c.loop-t-test.true (sym c.stray.ensures ∙ c.if-stray.true)

pub loop-t-preserved : goal.loop-t-preserved
loop-t-preserved c = stands_on c.args.self.now.linked c.loop-t.invariant c.loop-t-test.true (sym c.stray.ensures ∙ c.if-stray.false)

pub returns : goal.returns
returns c = stands_end c.args.self.now.linked c.loop-t.invariant c.loop-t-test.false
