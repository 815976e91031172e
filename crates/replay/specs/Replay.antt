-- Replay of flags on a trace: the rows 13, 14 and 15, each over the whole input before the next, and the totals. Assumes nothing.
use Rattle.std.specs.Prelude.{ℕ, suc, ◌&&◌, not, List, [], ◌∷◌, length, eqb, ltb}
use Rattle.model.specs.Model.{Rules, Request, Trace, Contents, misses, fills, strikes, cost, count}
use Rattle.model.specs.Plans.{Flags, flags_in, contents, may_flag, occupancy}
use Rattle.model.specs.Refusals.{Tried, passes, row, next, Answer, answer}
use Rattle.trace.specs.TraceFile.{requests_at, trace_tried, trace_in}
use Rattle.replay.specs.declared.Totals as code

-- row 13, for the flags of the requests after request t
abbrev pub values_tried : (t : ℕ) → List ℕ → Tried
values_tried t [] = passes
values_tried t (f ∷ fs) = row (ltb 1 f) 13 (suc t) (values_tried (suc t) fs)

-- row 14, from gap t on
abbrev pub stands_tried : Rules → (t : ℕ) → List Request → Flags → Contents → Tried
stands_tried ru t [] x S = passes
stands_tried ru t (r ∷ rs) x S = row (x (suc t) && not (may_flag ru t r rs S)) 14 (suc t) (stands_tried ru (suc t) rs x S)

-- row 15, for the gaps after gap t, which follow these requests
abbrev pub room_tried : Trace → Contents → (t : ℕ) → List Request → Tried
room_tried tr S t [] = passes
room_tried tr S t (r ∷ rs) = row (ltb tr.rules.slots (occupancy tr.reqs S (suc t))) 15 (suc t) (room_tried tr S (suc t) rs)

-- the contents that a list of flags names
abbrev pub named : Trace → (flags : List ℕ) → Contents
named tr flags = contents tr.reqs (flags_in flags)

-- rows 13 to 15
unfoldable pub flags_tried : Trace → (flags : List ℕ) → Tried
flags_tried tr flags =
    next (values_tried 0 flags)
    (next (stands_tried tr.rules 0 tr.reqs (flags_in flags) (named tr flags))
    (room_tried tr (named tr flags) 0 tr.reqs))

-- row 11, for a list that should have n numbers
abbrev pub count_tried : (n : ℕ) → List ℕ → Tried
count_tried n l = row (not (eqb (length l) n)) 11 0 passes

-- what flags come to: the cost of the contents that they name, and how many read misses, fills and write hits it has
abbrev pub Totals : Type 0
Totals = code.Totals

-- the totals of flags on a trace
abbrev pub totals_of : Trace → (flags : List ℕ) → Totals
totals_of tr flags =
    let S = named tr flags in
    record { total = cost tr S; misses = count misses tr S; fills = count fills tr S; strikes = count strikes tr S }

-- rows 1 to 8, 11, 13 to 15
unfoldable pub replay_tried : (trace flags : List ℕ) → Tried
replay_tried tr flags = next (trace_tried tr) (next (count_tried (requests_at tr) flags) (flags_tried (trace_in tr) flags))

-- the replay of flags on a trace's bytes
abbrev pub replay_of : (trace flags : List ℕ) → Answer Totals
replay_of tr flags = answer (replay_tried tr flags) (totals_of (trace_in tr) flags)
