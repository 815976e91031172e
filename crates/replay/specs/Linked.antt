-- What the steps of a replay look at: the flags and the lists of next and previous requests, counted from 0. Assumes nothing.
use Rattle.std.specs.Prelude.{◌≡◌, ℕ, ◌+◌, ◌≤◌, ◌<◌, Bool, false, cond, ◌||◌, ◌&&◌, not, List, length, get_or, eqb, ltb}
use Rattle.model.specs.Numbers.{max_requests, max_plan_cost}
use Rattle.model.specs.Links.{next_of, prev_of}
use Rattle.model.specs.Model.{Rules, Request, misses, fills, strikes, charge}
use Rattle.model.specs.Plans.{flags_in}
use Rattle.model.specs.Refusals.{Tried}
use Rattle.trace.specs.TraceFile.{SoundTrace, requests_at, kind_at, rules_in, trace_in}
use Rattle.replay.specs.Replay.{Totals, stands_tried, room_tried, named}

-- whether flag t is 1
abbrev pub flag_at : (flags : List ℕ) → (t : ℕ) → Bool
flag_at flags t = eqb (get_or flags t 0) 1

-- whether the item of request t is held before it: as the flag of its previous request says
abbrev pub held_by : (flags prevs : List ℕ) → (t : ℕ) → Bool
held_by flags prevs t = cond (ltb (get_or prevs t 0) (length flags)) (flag_at flags (get_or prevs t 0)) false

-- whether flag t is 1 where it may not be: at an item's last request, or at a write of an item not held
abbrev pub stray_by : (trace flags nexts prevs : List ℕ) → (t : ℕ) → Bool
stray_by tr flags nexts prevs t =
    flag_at flags t && not (ltb (get_or nexts t 0) (length flags) && (held_by flags prevs t || not (eqb (kind_at tr t) 1)))

-- a sound trace, as many flags as requests, and in its place the previous request of each
pub record Backward (tr flags prevs : List ℕ) : Type 0 where
  pub sound : SoundTrace tr
  pub count : length flags ≡ requests_at tr
  pub prev : (t : ℕ) → t < requests_at tr → get_or prevs t 0 ≡ prev_of (trace_in tr).reqs t

-- and the next request of each
pub record Forward (tr flags nexts prevs : List ℕ) : Type 0 where
  pub back : Backward tr flags prevs
  pub next : (t : ℕ) → t < requests_at tr → get_or nexts t 0 ≡ next_of (trace_in tr).reqs t

-- row 14 of flags on a trace's bytes
abbrev pub stands_of : (trace flags : List ℕ) → Tried
stands_of tr flags = stands_tried (rules_in tr) 0 (trace_in tr).reqs (flags_in flags) (named (trace_in tr) flags)

-- row 15 of flags on a trace's bytes
abbrev pub room_of : (trace flags : List ℕ) → Tried
room_of tr flags = room_tried (trace_in tr) (named (trace_in tr) flags) 0 (trace_in tr).reqs

-- what one request pays and counts for
abbrev pub paid : Rules → Request → (before after : Bool) → Totals
paid ru r before after =
    record {
      total = charge ru r before after;
      misses = cond (misses r before after) 1 0;
      fills = cond (fills r before after) 1 0;
      strikes = cond (strikes r before after) 1 0;
    }

-- totals that can be added within the limits
pub record Adds (a b : Totals) : Type 0 where
  pub total : a.total + b.total ≤ max_plan_cost
  pub misses : a.misses + b.misses ≤ max_requests
  pub fills : a.fills + b.fills ≤ max_requests
  pub strikes : a.strikes + b.strikes ≤ max_requests

-- one after the other
abbrev pub plus : Totals → Totals → Totals
plus a b =
    record {
      total = a.total + b.total;
      misses = a.misses + b.misses;
      fills = a.fills + b.fills;
      strikes = a.strikes + b.strikes;
    }
