use Rattle.std.proofs.Common.{arith, sym}
use Rattle.trace.specs.TraceFile.{requests_at}
use Rattle.plan.proofs.Sound.{SoundPlan}
use Rattle.plan.proofs.Sections.{section_sound}
use Rattle.plan.proofs.flags.Goals as goal
use Rattle.plan.proofs.flags.Goals.{After-requests}

-- the plan has none of 1 to 12
sound : (c : After-requests) → SoundPlan (requests_at c.args.trace.now) c.args.plan.now
sound c = section_sound _ _ (sym (rw c.in-Ok.is at c.check.ensures))

pub slice_bounds-result-end-in-Ok : goal.slice_bounds-result-end-in-Ok
slice_bounds-result-end-in-Ok c =
    omega (arith, (sound (goal.at.slice_bounds-result-end-in-Ok c).After-requests).long, c.requests.ensures.0)
