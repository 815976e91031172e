-- Trace files of document 01: where each number lies, the rows 1 to 8, and the trace that the bytes hold.
-- Records are counted from 0: record t is request t + 1. Assumes nothing.
use Rattle.std.specs.Prelude.{◌≡◌, ℕ, zero, suc, ◌+◌, ◌*◌, ◌≤◌, ◌<◌, Bool, cond, ◌||◌, ◌&&◌, not, List, [], ◌∷◌, ◌++◌, length, get_or, eqb, ltb}
use Rattle.fields.specs.Bytes.{num_at, bytes_of, stand_at}
use Rattle.model.specs.Model.{Rules, Request, Trace}
use Rattle.model.specs.Links.{listed}
use Rattle.model.specs.Numbers.{max_slots, max_requests, max_cost}
use Rattle.model.specs.Refusals.{Tried, passes, row}

-- ---- where the numbers lie

-- w, in one byte
abbrev pub slots_at : List ℕ → ℕ
slots_at tr = get_or tr 5 0

-- n, in two
abbrev pub requests_at : List ℕ → ℕ
requests_at tr = num_at 2 6 tr

-- F, in four
abbrev pub fill_at : List ℕ → ℕ
fill_at tr = num_at 4 8 tr

-- where the first record begins
abbrev pub first_at : List ℕ → ℕ
first_at tr = 12

-- where record t begins, eight bytes to a record
abbrev pub record_at : List ℕ → (t : ℕ) → ℕ
record_at tr t = first_at tr + 8 * t

-- the item of record t, in two bytes
abbrev pub item_at : List ℕ → (t : ℕ) → ℕ
item_at tr t = num_at 2 (record_at tr t) tr

-- its kind, in one: 0 read, 1 write
abbrev pub kind_at : List ℕ → (t : ℕ) → ℕ
kind_at tr t = get_or tr (record_at tr t + 2) 0

-- its zero byte
abbrev pub zero_at : List ℕ → (t : ℕ) → ℕ
zero_at tr t = get_or tr (record_at tr t + 3) 0

-- its cost, in four
abbrev pub cost_at : List ℕ → (t : ℕ) → ℕ
cost_at tr t = num_at 4 (record_at tr t + 4) tr

-- how long the whole file is
abbrev pub length_at : List ℕ → ℕ
length_at tr = first_at tr + 8 * requests_at tr

-- ---- rows 1 to 8

-- rows 7 and 8, record by record, for the k records from record t on
abbrev pub records_tried : (k t : ℕ) → List ℕ → Tried
records_tried zero t tr = passes
records_tried (suc k) t tr =
    row (ltb 1 (kind_at tr t) || not (eqb (zero_at tr t) 0)) 7 (suc t)
    (row (ltb max_cost (cost_at tr t)) 8 (suc t)
    (records_tried k (suc t) tr))

-- the mark `CTR`, and version 1 in two bytes
abbrev pub marked_trace : List ℕ → Bool
marked_trace tr = stand_at (67 ∷ 84 ∷ 82 ∷ []) 0 tr && eqb (num_at 2 3 tr) 1

-- rows 1 to 8
unfoldable pub trace_tried : List ℕ → Tried
trace_tried tr =
    row (ltb (length tr) 12) 1 0
    (row (not (marked_trace tr)) 2 0
    (row (ltb max_slots (slots_at tr)) 3 0
    (row (ltb max_requests (requests_at tr)) 4 0
    (row (ltb max_cost (fill_at tr)) 5 0
    (row (not (eqb (length tr) (length_at tr))) 6 0
    (records_tried (requests_at tr) 0 tr))))))

-- ---- the trace that the bytes hold

-- request t + 1, of record t
abbrev pub request_in : List ℕ → (t : ℕ) → Request
request_in tr t = record { write = eqb (kind_at tr t) 1; item = item_at tr t; cost = cost_at tr t }

-- w and F
abbrev pub rules_in : List ℕ → Rules
rules_in tr = record { slots = slots_at tr; fill = fill_at tr }

-- the rules, and a request for each record
abbrev pub trace_in : List ℕ → Trace
trace_in tr = record { rules = rules_in tr; reqs = listed (request_in tr) (requests_at tr) 0 }

-- a trace with none of 1 to 8, taken apart
pub record SoundTrace (tr : List ℕ) : Type 0 where
  pub slots : slots_at tr ≤ max_slots
  pub requests : requests_at tr ≤ max_requests
  pub fill : fill_at tr ≤ max_cost
  pub long : length tr ≡ length_at tr
  pub kinds : (t : ℕ) → t < requests_at tr → kind_at tr t ≤ 1
  pub costs : (t : ℕ) → t < requests_at tr → cost_at tr t ≤ max_cost

-- ---- the bytes of a trace

-- one record
abbrev pub record_bytes : Request → List ℕ
record_bytes r = bytes_of 2 r.item ++ cond r.write 1 0 ∷ 0 ∷ bytes_of 4 r.cost

-- record after record
abbrev pub records_bytes : List Request → List ℕ
records_bytes [] = []
records_bytes (r ∷ rs) = record_bytes r ++ records_bytes rs

-- the whole file
abbrev pub trace_bytes : Trace → List ℕ
trace_bytes tr =
    67 ∷ 84 ∷ 82 ∷ bytes_of 2 1 ++ tr.rules.slots ∷ bytes_of 2 (length tr.reqs) ++ bytes_of 4 tr.rules.fill ++ records_bytes tr.reqs
