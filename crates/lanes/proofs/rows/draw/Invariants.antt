-- `draw` meets its contract: the lists are the chart of the requests passed. Assumes nothing.
use Rattle.lanes.proofs.Drawing.{Drawing}
use Rattle.lanes.proofs.rows.draw.Given as goal

abbrev pub invariant-loop-t : goal.invariant-loop-t
invariant-loop-t l = Drawing l.trace l.kept.flags.now l.initial.rows l.busy l.rows l.t
