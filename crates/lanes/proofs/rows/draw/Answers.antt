use native.Mathlib.Omega.{arith}
use mathlib.Core.Path.{◌≡◌, ◌∙◌}
use mathlib.Core.Bool.{true, false}
use Rattle.replay.specs.Linked.{flag_at}
use Rattle.replay.proofs.Steps.{as_number}
use Rattle.lanes.proofs.Drawing.{drawing_low, drawing_on, drawing_end}
use Rattle.lanes.proofs.rows.draw.Goals as goal
use Rattle.lanes.proofs.rows.draw.Goals.{then-after, else-after}

pub bounds-busy-here : goal.bounds-busy-here
bounds-busy-here c = omega (arith, c.place-here.ensures, drawing_low c.requires c.loop-t.invariant c.loop-t-test.true)

pub overflow_cast-rows : goal.overflow_cast-rows
overflow_cast-rows c = omega (arith, c.place-here.ensures, drawing_low c.requires c.loop-t.invariant c.loop-t-test.true)

pub loop-t-preserved : goal.loop-t-preserved
loop-t-preserved c =
    drawing_on c.requires c.loop-t.invariant _ _ _ c.loop-t-test.true c.place-here.ensures (c.from.ensures ∙ as_number _ _ c.flag-after.ensures)
    (elim c.if-after.branch [ then-after w ↦ let k : true ≡ flag_at c.args.kept.now.flags.now c.loop-t.t = w.if-after.ensures in rw (← k) w.rows-is | else-after w ↦ let k : false ≡ flag_at c.args.kept.now.flags.now c.loop-t.t = w.if-after.ensures in rw (← k) w.rows-is ])

pub returns : goal.returns
returns c = drawing_end c.requires c.loop-t.invariant c.loop-t-test.false
