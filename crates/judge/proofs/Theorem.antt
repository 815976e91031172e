-- What the judge's word is worth, over the bytes that were judged: an accepted cost is the least over all allowed contents.
use mathlib.Core.Path.{◌≡◌, sym}
use mathlib.Core.List.{List}
use Prim.Native.Nat.{ℕ, ◌≤◌}
use lib.IntN.{pos}
use lib.Signed.{◌≤ℤ◌}
use Rattle.model.specs.Model.{Contents, Rents, Allowed, Least, cost, floor}
use Rattle.model.specs.Plans.{flags_in, rents_in}
use Rattle.model.specs.Refusals.{passes, fine}
use Rattle.model.proofs.Duality.{floor_below_cost}
use Rattle.model.proofs.Plans.{flags_name_allowed}
use Rattle.model.proofs.Unique.{floor_gives_least}
use Rattle.model.proofs.Refusals.{answer_fine}
use Rattle.trace.specs.TraceFile.{trace_in}
use Rattle.replay.specs.Replay.{named}
use Rattle.audit.specs.Audit.{plan_flags, plan_rents, plan_cost, audit_tried}
use Rattle.judge.specs.Judge.{plan_floor, judge_tried, judge_of}
use Rattle.replay.proofs.Laws.{flags_sound}
use Rattle.judge.proofs.Passes.{audit_sound, judge_passes, passes_judge}

-- the contents that the plan's own flags name
abbrev pub plan_contents : (trace plan : List ℕ) → Contents
plan_contents trace plan = named (trace_in trace) (plan_flags trace plan)

-- what acceptance at cost c shows: the plan's own contents are allowed and cost c, and no allowed contents cost less
pub record Proven (trace plan : List ℕ) (c : ℕ) : Type 0 where
  pub allowed : Allowed (trace_in trace) (plan_contents trace plan)
  pub costs : cost (trace_in trace) (plan_contents trace plan) ≡ c
  pub below : (S : Contents) → Allowed (trace_in trace) S → c ≤ cost (trace_in trace) S

-- an accepted plan is proven to cost least
pub accepted_costs_least : (trace plan : List ℕ) (c : ℕ) → judge_of trace plan ≡ fine c → Proven trace plan c
accepted_costs_least trace plan c e =
    let k = answer_fine (judge_tried trace plan) (plan_cost trace plan) c (sym e) in
    let t = k.0 in
    let q = sym k.1 in
    let (a, f) = judge_passes trace plan t in
    let S = plan_contents trace plan in
    let s : Allowed (trace_in trace) S =
    flags_name_allowed (trace_in trace) (flags_in (plan_flags trace plan)) (flags_sound (trace_in trace) (plan_flags trace plan) (audit_sound trace plan a).flags) in
    record {
      allowed = s;
      costs = q;
      below = rw q at (floor_gives_least (trace_in trace) (rents_in (plan_rents trace plan)) S s f).below;
    }

-- so its cost is the least cost of the trace
pub accepted_least : (trace plan : List ℕ) (c : ℕ) → judge_of trace plan ≡ fine c → Least (trace_in trace) c
accepted_least trace plan c e =
    let k = accepted_costs_least trace plan c e in
    record { reached = (plan_contents trace plan, k.allowed, k.costs); below = k.below }

-- no rents put the floor above the cost of any allowed contents
pub floor_never_above : (trace : List ℕ) (rents : Rents) (S : Contents) → Allowed (trace_in trace) S
    → floor (trace_in trace) rents ≤ℤ pos (cost (trace_in trace) S)
floor_never_above trace rents S a = floor_below_cost (trace_in trace) rents S a

-- a sound plan is accepted exactly when the floor of its rents is its cost
pub accepts_exactly : (trace plan : List ℕ) → audit_tried trace plan ≡ passes
    → (judge_tried trace plan ≡ passes → plan_floor trace plan ≡ pos (plan_cost trace plan))
    × (plan_floor trace plan ≡ pos (plan_cost trace plan) → judge_tried trace plan ≡ passes)
accepts_exactly trace plan a = ((λ t. (judge_passes trace plan t).1), (λ f. passes_judge trace plan a f))
