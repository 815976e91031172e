-- Laws of refusals 1 to 12 together, and of the parts that are handed out. Assumes nothing.
use mathlib.Core.Path.{◌≡◌}
use Prim.Native.Nat.{ℕ}
use mathlib.Core.List.{List}
use Rattle.model.specs.Refusals.{passes}
use Rattle.model.proofs.Refusals.{next_passes}
use Rattle.trace.specs.TraceFile.{requests_at, trace_tried}
use Rattle.plan.specs.PlanFile.{section_tried, plan_tried}
use Rattle.plan.proofs.Sound.{SoundPlan, sound_plan}

-- a plan with none of 1 to 12
pub section_sound : (tr pl : List ℕ) → section_tried tr pl ≡ passes → SoundPlan (requests_at tr) pl
unfolding section_tried
section_sound tr pl h = sound_plan (requests_at tr) pl (next_passes (trace_tried tr) (plan_tried (requests_at tr) pl) h).1
