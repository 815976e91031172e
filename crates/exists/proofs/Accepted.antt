-- Every sound trace has a plan that the judge accepts: the rents that prove the least cost exist within their limit. This speaks of the
-- definitions alone, and of no code that finds such a plan. Assumes nothing.
use mathlib.Core.Path.{◌≡◌, refl, sym, ◌∙◌, ap}
use Prim.Native.Nat.{ℕ, suc, ◌≤◌}
use native.Mathlib.Omega.{arith}
use mathlib.Core.List.{List, [], ◌∷◌}
use lib.ListN.{get_or}
use lib.IntN.{pos}
use borrow.Author.Tests.{eq-eqb, le-ltb}
use Rattle.model.specs.Model.{Least, cost, floor}
use Rattle.model.specs.Plans.{rents_in}
use Rattle.model.specs.Numbers.{max_rent}
use Rattle.model.specs.Refusals.{passes, fine}
use Rattle.model.proofs.Bounds.{no_plan_above}
use Rattle.trace.specs.TraceFile.{requests_at, trace_tried, trace_in}
use Rattle.trace.proofs.Sound.{sound_trace, trace_within, reqs_length}
use Rattle.plan.specs.PlanFile.{section_tried, rents_tried, plan_bytes}
use Rattle.plan.proofs.Written.{Holds, read_back}
use Rattle.replay.specs.Replay.{values_tried, named, flags_tried}
use Rattle.replay.proofs.Laws.{sound_flags_pass}
use Rattle.audit.specs.Audit.{plan_cost, audit_tried}
use Rattle.judge.specs.Judge.{plan_floor, judge_of}
use Rattle.judge.proofs.Passes.{passes_judge}
use Rattle.judge.proofs.Theorem.{accepted_least}
use Rattle.network.proofs.Exists.{Proving, proving_exists}

-- flags of 0 and 1 pass row 13
pub values_pass : (t : ℕ) (flags : List ℕ) → ((i : ℕ) → get_or flags i 0 ≤ 1) → values_tried t flags ≡ passes
values_pass t [] h = refl
values_pass t (f ∷ fs) h = rw (le-ltb 1 f (h 0)) (values_pass (suc t) fs (λ i. h (suc i)))

-- rents within the limit pass row 17
rents_pass : (t : ℕ) (rents : List ℕ) → ((i : ℕ) → get_or rents i 0 ≤ max_rent) → rents_tried t rents ≡ passes
rents_pass t [] h = refl
rents_pass t (p ∷ ps) h = rw (le-ltb max_rent p (h 0)) (rents_pass (suc t) ps (λ i. h (suc i)))

-- what flags cost on a trace
abbrev pub flags_cost : (trace flags : List ℕ) → ℕ
flags_cost trace flags = cost (trace_in trace) (named (trace_in trace) flags)

-- the bytes of the plan that states it
abbrev pub plan_of : (trace flags rents : List ℕ) → List ℕ
plan_of trace flags rents = plan_bytes (flags_cost trace flags) flags rents

module _ (trace flags rents : List ℕ) (ok : trace_tried trace ≡ passes) (p : Proving (trace_in trace) flags rents) where
  -- the plan holds that cost, these flags and these rents
  holds : Holds (requests_at trace) (flags_cost trace flags) flags rents (plan_of trace flags rents)
  holds =
      let s = sound_trace trace ok in
      read_back (record {
        few = omega (arith, s.requests);
        flags_long = p.flags_long ∙ reqs_length trace;
        rents_long = p.rents_long ∙ reqs_length trace;
        cost_small = omega (arith, no_plan_above (trace_in trace) (trace_within trace s) (named (trace_in trace) flags));
        rents_small = λ i. omega (arith, p.limit i);
      })

  section_passes : section_tried trace (plan_of trace flags rents) ≡ passes
  unfolding section_tried
  section_passes = rw ok holds.tried

  cost_read : plan_cost trace (plan_of trace flags rents) ≡ flags_cost trace flags
  cost_read = ap (flags_cost trace) holds.flags_kept

  audit_passes : audit_tried trace (plan_of trace flags rents) ≡ passes
  unfolding audit_tried
  audit_passes =
      let c = flags_cost trace flags in
      let f : flags_tried (trace_in trace) flags ≡ passes = sound_flags_pass (trace_in trace) flags (values_pass 0 flags p.values) p.sound in
      rw (section_passes, holds.flags_kept, f, holds.stated, eq-eqb c c refl, holds.rents_read)
      (rents_pass 0 rents p.limit)

  -- a plan written from flags and rents that prove their cost is accepted at that cost
  pub proving_accepted : judge_of trace (plan_of trace flags rents) ≡ fine (flags_cost trace flags)
  proving_accepted =
      let e : plan_floor trace (plan_of trace flags rents) ≡ pos (plan_cost trace (plan_of trace flags rents)) =
      ap (λ (l : List ℕ). floor (trace_in trace) (rents_in l)) holds.rents_read ∙ (p.proves ∙ ap pos (sym cost_read)) in
      rw (passes_judge trace (plan_of trace flags rents) audit_passes e) (ap fine cost_read)

-- every sound trace has an accepted plan
pub every_trace_has_an_accepted_plan : (trace : List ℕ) → trace_tried trace ≡ passes
    → (plan : List ℕ) × (c : ℕ) × (judge_of trace plan ≡ fine c)
every_trace_has_an_accepted_plan trace ok =
    let (flags, rents, p) = proving_exists (trace_in trace) (trace_within trace (sound_trace trace ok)) in
    (plan_of trace flags rents, flags_cost trace flags, proving_accepted trace flags rents ok p)

-- and the cost at which it is accepted is the least
pub every_trace_has_a_least_cost : (trace : List ℕ) → trace_tried trace ≡ passes → (c : ℕ) × Least (trace_in trace) c
every_trace_has_a_least_cost trace ok =
    let (plan, c, e) = every_trace_has_an_accepted_plan trace ok in (c, accepted_least trace plan c e)
