use Rattle.capi.proofs.Small.{said_coded, section_small}
use Rattle.capi.proofs.gp_section.Goals as goal

pub coded-requires : goal.coded-requires
coded-requires c = said_coded c.check.result (section_small c.args.trace.now c.args.plan.now) c.check.ensures
