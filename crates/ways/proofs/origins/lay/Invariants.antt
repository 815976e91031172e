-- The loop lays one point and its request after the other. Assumes nothing.
use Rattle.ways.proofs.Rows.{Laying}
use Rattle.ways.specs.Ways.{point_source, request_source}
use Rattle.ways.proofs.origins.lay.Given as goal

abbrev pub invariant-loop-t : goal.invariant-loop-t
invariant-loop-t l = Laying (point_source l.n) (request_source l.n l.next l.prev) l.n l.initial.from l.from l.t
