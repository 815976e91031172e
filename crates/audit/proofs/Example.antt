-- The laws of the audit at work on document 01's own trace and plan. Assumes nothing.
use mathlib.Core.Path.{◌≡◌, refl}
use Prim.Native.Nat.{ℕ}
use mathlib.Core.List.{List, [], ◌∷◌}
use Rattle.fields.specs.Bytes.{num_at}
use Rattle.model.specs.Model.{cost, count}
use Rattle.model.specs.Refusals.{fine, refused}
use Rattle.trace.specs.TraceFile.{trace_tried}
use Rattle.trace.proofs.Example.{example_bytes}
use Rattle.plan.specs.PlanFile.{plan_tried, section_tried}
use Rattle.replay.specs.Replay.{flags_tried, Totals}
use Rattle.audit.specs.Audit.{audit_tried, audit_of}
use Rattle.audit.proofs.Laws.{PlanAudited, audited_allowed}

-- the plan: it states 19, keeps the item from the read to the last request, and has rents 0
abbrev plan_bytes : List ℕ
plan_bytes =
    0x43 ∷ 0x50 ∷ 0x4C ∷ 0x01 ∷ 0x00 ∷ 0x00 ∷ 0x03 ∷ 0x00
    ∷ 0x13 ∷ 0x00 ∷ 0x00 ∷ 0x00 ∷ 0x00 ∷ 0x00 ∷ 0x00 ∷ 0x00
    ∷ 0x01 ∷ 0x01 ∷ 0x00
    ∷ 0 ∷ 0 ∷ 0 ∷ 0 ∷ 0 ∷ 0 ∷ 0 ∷ 0 ∷ 0 ∷ 0 ∷ 0 ∷ 0
    ∷ []

-- a read miss that is a fill, a write hit, a read hit
abbrev totals : Totals
totals = record { total = 19; misses = 1; fills = 1; strikes = 1 }

-- the audit of it
pub example_audited : fine totals ≡ audit_of example_bytes plan_bytes
unfolding audit_tried section_tried trace_tried plan_tried flags_tried num_at cost count
example_audited = refl

-- what the audit says of it
pub example_allowed : PlanAudited example_bytes plan_bytes totals
example_allowed = audited_allowed example_bytes plan_bytes totals example_audited

-- the same plan with flag 1 at the last request
abbrev stray_bytes : List ℕ
stray_bytes =
    0x43 ∷ 0x50 ∷ 0x4C ∷ 0x01 ∷ 0x00 ∷ 0x00 ∷ 0x03 ∷ 0x00
    ∷ 0x13 ∷ 0x00 ∷ 0x00 ∷ 0x00 ∷ 0x00 ∷ 0x00 ∷ 0x00 ∷ 0x00
    ∷ 0x01 ∷ 0x01 ∷ 0x01
    ∷ 0 ∷ 0 ∷ 0 ∷ 0 ∷ 0 ∷ 0 ∷ 0 ∷ 0 ∷ 0 ∷ 0 ∷ 0 ∷ 0
    ∷ []

-- it is refused there
pub example_stray : refused 14 3 ≡ audit_of example_bytes stray_bytes
unfolding audit_tried section_tried trace_tried plan_tried flags_tried num_at cost count
example_stray = refl
