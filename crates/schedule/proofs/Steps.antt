-- What is read and counted is what happens at a request, by the model.
use mathlib.Core.Path.{◌≡◌, sym, ◌∙◌, ap}
use Prim.Native.Nat.{ℕ, suc, ◌+◌, ◌≤◌, ◌<◌}
use native.Mathlib.Omega.{arith}
use mathlib.Core.Bool.{Bool}
use mathlib.Core.List.{List}
use lib.ListN.{length}
use lib.Dec.{eqb}
use borrow.Author.Tests.{lt-ltb, le-ltb}
use Rattle.model.specs.Model.{charge}
use Rattle.model.specs.Plans.{request_at, rents_in}
use Rattle.std.specs.Prelude.{Option, Some, None, Result}
use Rattle.model.specs.Refusals.{passes, Answer, fine, refused, answered}
use Rattle.model.specs.declared.Refusal.{Refusal}
use Rattle.model.proofs.Refusals.{answer_fine, answer_refused, answered_unique}
use Rattle.model.proofs.Links.{get_d_listed}
use Rattle.trace.specs.TraceFile.{slots_at, requests_at, fill_at, item_at, kind_at, cost_at, rules_in, request_in, trace_in}
use Rattle.trace.specs.declared.Header.{Header}
use Rattle.trace.proofs.Sound.{req_at}
use Rattle.links.specs.Promise.{Filled}
use Rattle.plan.specs.PlanFile.{shape_of, rents_part, rent_in, section_tried, flags_of, rents_of}
use Rattle.replay.specs.Replay.{named, Totals, totals_of}
use Rattle.replay.specs.Rows.{row_of, paid_in}
use Rattle.replay.specs.Linked.{flag_at, held_by}
use Rattle.replay.specs.declared.Row.{Row}
use Rattle.replay.proofs.Linked.{held_before, held_after}
use Rattle.replay.proofs.Table.{row_paid}
use Rattle.replay.proofs.Answered.{filled_forward}
use Rattle.audit.specs.Audit.{plan_flags, plan_rents, audit_tried, audit_of}
use Rattle.audit.proofs.Laws.{audit_passes}
use Rattle.audit.proofs.Parts.{section_trace, flags_count}
use Rattle.schedule.specs.Schedule.{step_with, step_by, step_of, stepped_of}
use Rattle.schedule.specs.declared.Step.{Step}
use Rattle.schedule.specs.Counted.{Audited, Linked}
use Rattle.schedule.proofs.Counting.{holds}

-- ---- one request

-- a row's charge is the model's
charge_is : (w fill item cost total : ℕ) (write before after : Bool) (row : Row) → row ≡ row_of write before after
    → total ≡ (paid_in row cost fill).total
    → total ≡ charge (record { slots = w; fill = fill }) (record { write = write; item = item; cost = cost }) before after
charge_is w fill item cost total write before after row e p =
    p
    ∙ (ap (λ q. (paid_in q cost fill).total) e
    ∙ ap (λ (s : Totals). s.total) (row_paid (record { slots = w; fill = fill }) (record { write = write; item = item; cost = cost }) before after))

module _ {tr flags prevs : List ℕ} {t : ℕ} (l : Linked tr flags prevs t) (rent : ℕ) where
  -- by the trace's bytes, the flags and the list of previous requests
  step_read : step_with (rules_in tr) (request_in tr t) (held_by flags prevs t) (flag_at flags t) t (holds tr flags (suc t)) rent
      ≡ step_by (trace_in tr) flags t rent
  step_read =
      let R = request_at (trace_in tr).reqs t in
      let S = named (trace_in tr) flags in
      let n : ℕ = holds tr flags (suc t) in
      ap (λ r. step_with (rules_in tr) r (held_by flags prevs t) (flag_at flags t) t n rent) (sym (req_at tr t l.inside))
      ∙ (ap (λ b. step_with (rules_in tr) R b (flag_at flags t) t n rent) (held_before l.back t l.inside)
      ∙ ap (λ a. step_with (rules_in tr) R (S t R.item) a t n rent) (sym (held_after tr flags t)))

  -- and by what was read of them
  pub step_is : {cost fill item slots within : ℕ} {write before after : Bool} {row : Row} {total : ℕ}
      → write ≡ eqb (kind_at tr t) 1 → cost ≡ cost_at tr t → fill ≡ fill_at tr → item ≡ item_at tr t → slots ≡ slots_at tr
      → within ≡ holds tr flags (suc t) → before ≡ held_by flags prevs t → after ≡ flag_at flags t
      → row ≡ row_of write before after → total ≡ (paid_in row cost fill).total
      → record {
        no = t + 1;
        write = write;
        item = item;
        cost = cost;
        before = before;
        after = after;
        charge = total;
        row = row;
        within = within;
        slots = slots;
        rent = rent;
      } ≡ step_by (trace_in tr) flags t rent
  step_is {cost} {fill} {item} {slots} {within} {write} {before} {after} {row} ek ec ef ei es ew eb ea er et =
      let ch = charge_is slots fill item cost _ write before after row er et in
      (λ i. record {
        no = t + 1;
        write = write;
        item = item;
        cost = cost;
        before = before;
        after = after;
        charge = ch i;
        row = er i;
        within = within;
        slots = slots;
        rent = rent;
      })
      ∙ ((λ i. step_with (record { slots = es i; fill = ef i }) (record { write = ek i; item = ei i; cost = ec i })
      (eb i) (ea i) t (ew i) rent)
      ∙ step_read)

-- ---- a plan that passes the audit

module _ (tr pl : List ℕ) (t : ℕ) (a : Audited tr pl t) where
  section : section_tried tr pl ≡ passes
  section = (audit_passes tr pl a.passed).section

  -- its flags and the lists that are filled
  pub plan_linked : {old-next old-prev nexts prevs flags : List ℕ} {r : Result Header Refusal} → Filled tr old-next old-prev r nexts prevs
      → flags ≡ flags_of tr pl → Linked tr flags prevs t
  plan_linked {old-next} {old-prev} {nexts} {prevs} {flags} f e =
      let p : flags ≡ plan_flags tr pl = e ∙ rw section in
      let n : length flags ≡ requests_at tr = ap length p ∙ flags_count tr pl section in
      record { back = (filled_forward f (section_trace tr pl section) n).back; inside = a.inside }

  -- its rent
  pub plan_rent : {part : List ℕ} {rent : ℕ} → part ≡ rents_of tr pl → rent ≡ rent_in part t → rent ≡ rents_in (plan_rents tr pl) (suc t)
  plan_rent {part} {rent} e h =
      let P : List ℕ = rents_part (shape_of (requests_at tr)) pl in
      let p : part ≡ rents_part (shape_of (requests_at tr)) pl = e ∙ rw section in
      let z : 0 + t ≡ t = omega arith in
      h ∙ (ap (λ q. rent_in q t) p ∙ (ap (rent_in P) (sym z) ∙ sym (get_d_listed (rent_in P) (requests_at tr) 0 t 0 a.inside)))

  -- so it is what happens at request t of the plan
  pub step_of_plan : {flags : List ℕ} {rent : ℕ} → flags ≡ flags_of tr pl → rent ≡ rents_in (plan_rents tr pl) (suc t)
      → step_by (trace_in tr) flags t rent ≡ step_of tr pl t
  step_of_plan {flags} {rent} e h =
      let p : flags ≡ plan_flags tr pl = e ∙ rw section in
      ap (λ f. step_by (trace_in tr) f t rent) p ∙ ap (step_by (trace_in tr) (plan_flags tr pl) t) h

-- ---- the answer

-- an audit that is answered with totals passed
pub audit_sound : (tr pl : List ℕ) (s : Totals) → fine s ≡ audit_of tr pl → audit_tried tr pl ≡ passes
audit_sound tr pl s e = (answer_fine (audit_tried tr pl) (totals_of (trace_in tr) (plan_flags tr pl)) s e).0

module _ (tr pl : List ℕ) (t : ℕ) where
  pub stepped_off : (n p : ℕ) → refused n p ≡ audit_of tr pl → refused n p ≡ stepped_of tr pl t
  stepped_off n p e = rw (answer_refused (audit_tried tr pl) (totals_of (trace_in tr) (plan_flags tr pl)) n p e)

  module _ (e : audit_tried tr pl ≡ passes) where
    pub stepped-at : t < requests_at tr → fine (Some (step_of tr pl t)) ≡ stepped_of tr pl t
    stepped-at h = rw (e, lt-ltb t (requests_at tr) h)

    pub stepped-past : requests_at tr ≤ t → fine None ≡ stepped_of tr pl t
    stepped-past h = rw (e, le-ltb t (requests_at tr) h)

-- ---- one answer

-- any two permitted answers coincide
pub step_once : (a b : Result (Option Step) Refusal) (x : Answer (Option Step)) → answered a ≡ x → answered b ≡ x → a ≡ b
step_once = answered_unique
