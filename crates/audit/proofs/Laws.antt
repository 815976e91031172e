-- What an audit that passes says: the total is the model's cost of allowed contents; and that it has one answer. Assumes nothing.
use mathlib.Core.Path.{◌≡◌, sym, ◌∙◌, ap}
use Prim.Native.Nat.{ℕ}
use mathlib.Core.Bool.{not}
use mathlib.Core.List.{List}
use lib.ListN.{length}
use lib.Dec.{eqb}
use borrow.Author.Tests.{eqb-true, not-false}
use Rattle.model.specs.Model.{Allowed, cost}
use Rattle.std.specs.Prelude.{Result}
use Rattle.model.specs.Refusals.{passes, row, Answer, fine, answered}
use Rattle.model.specs.declared.Refusal.{Refusal}
use Rattle.model.proofs.Refusals.{row_passes, next_passes, answer_fine, answered_unique}
use Rattle.trace.specs.TraceFile.{requests_at, trace_tried, trace_in}
use Rattle.plan.specs.PlanFile.{stated_at, section_tried, rents_tried}
use Rattle.replay.specs.Replay.{named, flags_tried, Totals, totals_of}
use Rattle.replay.proofs.Laws.{flags_allowed, TotalsWithin, totals_within}
use Rattle.audit.specs.Audit.{plan_flags, plan_rents, plan_cost, audit_tried, audit_of}
use Rattle.audit.proofs.Parts.{section_trace, flags_count}

-- an audit that passes, taken apart
pub record Audits (tr pl : List ℕ) : Type 0 where
  pub section : section_tried tr pl ≡ passes
  pub flags : flags_tried (trace_in tr) (plan_flags tr pl) ≡ passes
  pub stated : stated_at pl ≡ plan_cost tr pl
  pub rents : rents_tried 0 (plan_rents tr pl) ≡ passes

pub audit_passes : (tr pl : List ℕ) → audit_tried tr pl ≡ passes → Audits tr pl
unfolding audit_tried
audit_passes tr pl h =
    let a = next_passes (section_tried tr pl) _ h in
    let b = next_passes (flags_tried (trace_in tr) (plan_flags tr pl)) _ a.1 in
    let c = next_passes (row (not (eqb (stated_at pl) (plan_cost tr pl))) 16 0 passes) _ b.1 in
    let d = row_passes (not (eqb (stated_at pl) (plan_cost tr pl))) 16 0 passes c.0 in
    record { section = a.0; flags = b.0; stated = eqb-true _ _ (not-false _ d.0); rents = c.1 }

-- the contents that an audited plan's flags name are allowed
pub plan_allowed : (tr pl : List ℕ) → audit_tried tr pl ≡ passes → Allowed (trace_in tr) (named (trace_in tr) (plan_flags tr pl))
plan_allowed tr pl h = flags_allowed (trace_in tr) (plan_flags tr pl) (audit_passes tr pl h).flags

-- what a sound audit answers: the flags name allowed contents, the total is their cost, and the plan states it
pub record PlanAudited (tr pl : List ℕ) (s : Totals) : Type 0 where
  pub allowed : Allowed (trace_in tr) (named (trace_in tr) (plan_flags tr pl))
  pub total : s.total ≡ cost (trace_in tr) (named (trace_in tr) (plan_flags tr pl))
  pub stated : stated_at pl ≡ s.total
  pub totals : s ≡ totals_of (trace_in tr) (plan_flags tr pl)
  pub within : TotalsWithin s
  pub count : length (plan_flags tr pl) ≡ requests_at tr
  pub trace : trace_tried tr ≡ passes

pub audited_allowed : (tr pl : List ℕ) (s : Totals) → fine s ≡ audit_of tr pl → PlanAudited tr pl s
audited_allowed tr pl s e =
    let k = answer_fine (audit_tried tr pl) (totals_of (trace_in tr) (plan_flags tr pl)) s e in
    let a = audit_passes tr pl k.0 in
    let t : s.total ≡ plan_cost tr pl = ap (λ (x : Totals). x.total) k.1 in
    let sound = section_trace tr pl a.section in
    record {
      allowed = plan_allowed tr pl k.0;
      total = t;
      stated = a.stated ∙ sym t;
      totals = k.1;
      within = rw k.1 (totals_within tr (plan_flags tr pl) sound);
      count = flags_count tr pl a.section;
      trace = sound;
    }

-- what the call's promise permits is one answer
pub audit_unique : (a b : Result Totals Refusal) (x : Answer Totals) → answered a ≡ x → answered b ≡ x → a ≡ b
audit_unique = answered_unique
