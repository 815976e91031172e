-- What it tells that the judge's rows pass: the parts of rows 1 to 17, and row 18 as an equation.
use mathlib.Core.Path.{◌≡◌, refl, ap}
use Prim.Native.Nat.{ℕ}
use mathlib.Core.Bool.{true, not, false≢true}
use mathlib.Core.List.{List}
use borrow.Author.Tests.{eqb-true, eq-eqb, not-false}
use lib.Dec.{eqb}
use lib.IntN.{ℤ, pos, negsuc}
use Rattle.model.specs.Refusals.{passes, row, next}
use Rattle.model.proofs.Refusals.{row_passes, next_passes}
use Rattle.trace.specs.TraceFile.{requests_at, trace_tried, trace_in}
use Rattle.plan.specs.PlanFile.{stated_at, plan_tried, section_tried, rents_tried}
use Rattle.plan.proofs.Sound.{SoundPlan, sound_plan}
use Rattle.replay.specs.Replay.{flags_tried}
use Rattle.audit.specs.Audit.{plan_flags, plan_rents, plan_cost, audit_tried}
use Rattle.judge.specs.Judge.{isℤ, plan_floor, judge_tried}

-- ---- rows 1 to 17

-- a trace and a plan with none of 1 to 17, taken apart
pub record SoundPair (tr pl : List ℕ) : Type 0 where
  pub trace : trace_tried tr ≡ passes
  pub plan : SoundPlan (requests_at tr) pl
  pub section : section_tried tr pl ≡ passes
  pub flags : flags_tried (trace_in tr) (plan_flags tr pl) ≡ passes
  pub rents : rents_tried 0 (plan_rents tr pl) ≡ passes

pub audit_sound : (trace plan : List ℕ) → audit_tried trace plan ≡ passes → SoundPair trace plan
unfolding audit_tried section_tried
audit_sound tr pl e =
    let stated = row (not (eqb (stated_at pl) (plan_cost tr pl))) 16 0 passes in
    let rents = rents_tried 0 (plan_rents tr pl) in
    let flags = flags_tried (trace_in tr) (plan_flags tr pl) in
    let a = next_passes (section_tried tr pl) (next flags (next stated rents)) e in
    let b = next_passes flags (next stated rents) a.1 in
    let c = next_passes stated rents b.1 in
    let d = next_passes (trace_tried tr) (plan_tried (requests_at tr) pl) a.0 in
    record { trace = d.0; plan = sound_plan (requests_at tr) pl d.1; section = a.0; flags = b.0; rents = c.1 }

-- ---- row 18

is_number : (z : ℤ) (c : ℕ) → isℤ z c ≡ true → z ≡ pos c
is_number (pos m) c e = ap pos (eqb-true m c e)
is_number (negsuc m) c e = absurd (false≢true e)

number_is : (z : ℤ) (c : ℕ) → z ≡ pos c → isℤ z c ≡ true
number_is z c e = rw e (eq-eqb c c refl)

-- rows 1 to 18 pass: so do rows 1 to 17, and the floor is the cost
pub judge_passes : (trace plan : List ℕ) → judge_tried trace plan ≡ passes
    → (audit_tried trace plan ≡ passes) × (plan_floor trace plan ≡ pos (plan_cost trace plan))
unfolding judge_tried
judge_passes tr pl e =
    let b = isℤ (plan_floor tr pl) (plan_cost tr pl) in
    let k = next_passes (audit_tried tr pl) (row (not b) 18 0 passes) e in
    (k.0, is_number (plan_floor tr pl) (plan_cost tr pl) (not-false b (row_passes (not b) 18 0 passes k.1).0))

-- and back
pub passes_judge : (trace plan : List ℕ) → audit_tried trace plan ≡ passes → plan_floor trace plan ≡ pos (plan_cost trace plan)
    → judge_tried trace plan ≡ passes
unfolding judge_tried
passes_judge tr pl a e = rw (a, number_is (plan_floor tr pl) (plan_cost tr pl) e)
