use Rattle.model.specs.Model.{floor}
use Rattle.model.specs.Plans.{rents_in}
use Rattle.trace.specs.TraceFile.{trace_in}
use Rattle.capi.proofs.Small.{answer_coded, floor_small}
use Rattle.capi.proofs.gp_floor.Goals as goal

pub coded-requires : goal.coded-requires
coded-requires c =
    answer_coded (floor (trace_in c.args.trace.now) (rents_in c.args.rents.now)) c.floor.result (floor_small c.args.trace.now c.args.rents.now) c.floor.ensures
