use mathlib.Core.Path.{◌≡◌, sym}
use Prim.Native.Nat.{◌+◌, ◌-◌, ◌*◌}
use native.Mathlib.Omega.{arith}
use lib.ListN.{length}
use Rattle.trace.specs.TraceFile.{requests_at}
use Rattle.plan.proofs.Sound.{SoundPlan}
use Rattle.plan.proofs.Sections.{section_sound}
use Rattle.plan.proofs.rents.Goals as goal
use Rattle.plan.proofs.rents.Goals.{After-requests-start}

-- the plan has none of 1 to 12
sound : (c : After-requests-start) → let a = c.args in SoundPlan (requests_at a.trace.now) a.plan.now
sound c =
    section_sound _ _ (sym (rw c.in-Ok.is at c.check.ensures))

pub slice_bounds-result-start : goal.slice_bounds-result-start
slice_bounds-result-start c = omega (arith, (sound (goal.at.slice_bounds-result-start c).After-requests-start).long, c.requests-start.ensures.0)

pub slice_bounds-result-count : goal.slice_bounds-result-count
slice_bounds-result-count c = omega (arith, (sound (goal.at.slice_bounds-result-count c).After-requests-start).long, c.requests-start.ensures.0)

pub returns-in-Ok : goal.returns-in-Ok
returns-in-Ok c =
    let pl = c.args.plan.now in
    let n = c.requests-start.result in
    let z : length pl - (16 + n) ≡ 4 * n = omega (arith, (sound (goal.at.returns-in-Ok c).After-requests-start).long, c.requests-start.ensures.0) in
    rw (← rw c.in-Ok.is at c.check.ensures, z, c.requests-start.ensures.0)
