-- From the answers of the calls that an audit makes to its own. Assumes nothing.
use mathlib.Core.Path.{◌≡◌, sym, ◌∙◌, ap}
use Prim.Native.Nat.{ℕ}
use mathlib.Core.Bool.{true}
use mathlib.Core.List.{List}
use lib.ListN.{length}
use lib.Dec.{eqb}
use borrow.Author.Tests.{eq-eqb, ne_eqb}
use Rattle.model.specs.Refusals.{passes, refusal, fine, refused, answer}
use Rattle.model.proofs.Refusals.{answer_fine, answer_refused}
use Rattle.trace.specs.TraceFile.{requests_at, trace_in}
use Rattle.plan.specs.PlanFile.{stated_at, section_tried, flags_of, rents_tried}
use Rattle.replay.specs.Replay.{flags_tried, Totals, totals_of, replay_tried, replay_of}
use Rattle.audit.specs.Audit.{plan_flags, plan_rents, plan_cost, audit_tried, audit_of}
use Rattle.audit.proofs.Parts.{section_trace, flags_count, flags_kept}

module _ (tr pl : List ℕ) where
  pub section_off : (number place : ℕ) → refusal number place ≡ section_tried tr pl → refused number place ≡ audit_of tr pl
  unfolding audit_tried
  section_off number place e = rw (← e)

  module _ (h : section_tried tr pl ≡ passes) where
    -- a replay of the plan's flags passes rows 1 to 11
    pub replay-plan : replay_of tr (flags_of tr pl) ≡ answer (flags_tried (trace_in tr) (plan_flags tr pl)) (totals_of (trace_in tr) (plan_flags tr pl))
    unfolding replay_tried
    replay-plan =
        rw (flags_kept tr pl h, section_trace tr pl h, eq-eqb (length (plan_flags tr pl)) (requests_at tr) (flags_count tr pl h))

    pub flags-off : (number place : ℕ) → refused number place ≡ replay_of tr (flags_of tr pl) → refused number place ≡ audit_of tr pl
    unfolding audit_tried
    flags-off number place e =
        let k = answer_refused (flags_tried (trace_in tr) (plan_flags tr pl)) (totals_of (trace_in tr) (plan_flags tr pl)) number place (e ∙ replay-plan) in
        rw (h, k)

    module _ (s : Totals) (e : fine s ≡ replay_of tr (flags_of tr pl)) where
      replayed : (flags_tried (trace_in tr) (plan_flags tr pl) ≡ passes) × (s ≡ totals_of (trace_in tr) (plan_flags tr pl))
      replayed = answer_fine (flags_tried (trace_in tr) (plan_flags tr pl)) (totals_of (trace_in tr) (plan_flags tr pl)) s (e ∙ replay-plan)

      -- the replayed cost
      costs : s.total ≡ plan_cost tr pl
      costs = ap (λ (k : Totals). k.total) replayed.1

      pub cost-off : (stated : ℕ) → stated ≡ stated_at pl → (stated ≡ s.total → ⊥) → refused 16 0 ≡ audit_of tr pl
      unfolding audit_tried
      cost-off stated c n = rw (h, replayed.0, ne_eqb (stated_at pl) (plan_cost tr pl) (λ q. n (c ∙ (q ∙ sym costs))))

      module _ (stated : ℕ) (c : stated ≡ stated_at pl) (n : stated ≡ s.total) where
        same : eqb (stated_at pl) (plan_cost tr pl) ≡ true
        same = eq-eqb (stated_at pl) (plan_cost tr pl) (sym c ∙ (n ∙ costs))

        pub rents_off : (number place : ℕ) → refusal number place ≡ rents_tried 0 (plan_rents tr pl) → refused number place ≡ audit_of tr pl
        unfolding audit_tried
        rents_off number place r = rw (h, replayed.0, same, ← r)

        pub audit-done : passes ≡ rents_tried 0 (plan_rents tr pl) → fine s ≡ audit_of tr pl
        unfolding audit_tried
        audit-done r = rw (h, replayed.0, same, ← r) (ap fine replayed.1)
