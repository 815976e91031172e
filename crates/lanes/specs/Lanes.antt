-- The slot row in which each keep of a plan is drawn, in a chart with time from left to right and one row a slot.
-- Requests and rows are counted from 0. Assumes nothing.
use Rattle.std.specs.Prelude.{◌≡◌, ℕ, zero, suc, ◌≤◌, ◌<◌, Bool, true, cond, List, [], ◌∷◌, ◌++◌, length, get_or, set, replicate, eqb, Result}
use Rattle.model.specs.Numbers.{max_slots}
use Rattle.model.specs.Model.{Request, Trace}
use Rattle.model.specs.Plans.{Flags, flags_in, request_at, contents}
use Rattle.model.specs.Links.{prev_to, prev_of}
use Rattle.model.specs.Refusals.{said}
use Rattle.model.specs.declared.Refusal.{Refusal}
use Rattle.trace.specs.TraceFile.{trace_in}
use Rattle.links.specs.Linked.{laid}
use Rattle.replay.specs.Replay.{replay_tried}

-- ---- what a chart has to show

-- the row of item i in gap g: that of the request whose flag keeps it
abbrev pub row_in : List Request → (rows : List ℕ) → (g i : ℕ) → ℕ
row_in rs rows g i = get_or rows (prev_to rs g i) 0

-- a row for each request, such that every held item has a row of a slot, no row shows two items in one gap, and an item
-- that is kept on over a request of its own keeps its row
pub record Drawn (tr : Trace) (x : Flags) (rows : List ℕ) : Type 0 where
  pub each : length rows ≡ length tr.reqs
  pub has : (g i : ℕ) → g ≤ length tr.reqs → contents tr.reqs x g i ≡ true → prev_to tr.reqs g i < length rows
  pub within : (g i : ℕ) → g ≤ length tr.reqs → contents tr.reqs x g i ≡ true → row_in tr.reqs rows g i < tr.rules.slots
  pub apart : (g i j : ℕ) → g ≤ length tr.reqs → contents tr.reqs x g i ≡ true → contents tr.reqs x g j ≡ true
      → (i ≡ j → ⊥) → row_in tr.reqs rows g i ≡ row_in tr.reqs rows g j → ⊥
  pub stays : (t : ℕ) → t < length tr.reqs → contents tr.reqs x t (request_at tr.reqs t).item ≡ true
      → contents tr.reqs x (suc t) (request_at tr.reqs t).item ≡ true → get_or rows t 0 ≡ get_or rows (prev_of tr.reqs t) 0

-- ---- the rows that are given

-- the first row that is free: 0 stands for a free row; none is as many as there are
abbrev pub first_free : (busy : List ℕ) → ℕ
first_free [] = 0
first_free (b ∷ busy) = cond (eqb b 0) 0 (suc (first_free busy))

-- which rows are busy in a gap, and the row of each request passed
pub record Chart : Type 0 where
  pub busy : List ℕ
  pub rows : List ℕ

-- the row of a request's item: its old one where it was held before, else the first that is free
abbrev pub place_for : (before : Bool) → (old : ℕ) → (busy : List ℕ) → ℕ
place_for before old busy = cond before old (first_free busy)

-- one request more, whose item has that row: the row is busy if the item is held after it, and free if not, where the request's row is 0
abbrev pub draw_next : (after : Bool) → (place : ℕ) → Chart → Chart
draw_next after place c = record { busy = set c.busy place (cond after 1 0); rows = c.rows ++ cond after place 0 ∷ [] }

-- the row of the item of request t, after a chart of the first t requests
abbrev pub place_at : List Request → Flags → (t : ℕ) → Chart → ℕ
place_at rs x t c = place_for (contents rs x t (request_at rs t).item) (get_or c.rows (prev_of rs t) 0) c.busy

-- the chart of the first t requests; of one row more than there can be slots, so that one is always free
abbrev pub chart_to : List Request → Flags → (t : ℕ) → Chart
chart_to rs x zero = record { busy = replicate (suc max_slots) 0; rows = [] }
chart_to rs x (suc t) = draw_next (x (suc t)) (place_at rs x t (chart_to rs x t)) (chart_to rs x t)

-- the row of each request
unfoldable pub rows_of : Trace → Flags → List ℕ
rows_of tr x = (chart_to tr.reqs x (length tr.reqs)).rows

-- ---- the call

-- the lent list after the call: where no row holds the rows stand in front and the rest is kept; else all is kept
abbrev pub rows_in : (trace flags old : List ℕ) → List ℕ
rows_in tr flags old = laid (replay_tried tr flags) (rows_of (trace_in tr) (flags_in flags)) old

-- what `lanes` promises: the answer, by rows 1 to 8, 11 and 13 to 15, and what the lent list then holds
pub record Laned (trace flags old : List ℕ) (r : Result Unit Refusal) (rows : List ℕ) : Type 0 where
  pub answer : said r ≡ replay_tried trace flags
  pub laid_out : rows ≡ rows_in trace flags old
