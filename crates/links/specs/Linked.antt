-- What a trace's lists of next and previous requests hold. Requests are counted from 0, and none is n. Assumes nothing.
use Rattle.std.specs.Prelude.{ℕ, List, ◌++◌, length, drop}
use Rattle.model.specs.Model.{Request}
use Rattle.model.specs.Links.{next_of, prev_of, listed}
use Rattle.model.specs.Refusals.{Tried, passes, refusal}
use Rattle.trace.specs.TraceFile.{trace_tried, trace_in}

-- the next request of each request
abbrev pub nexts : List Request → List ℕ
nexts rs = listed (next_of rs) (length rs) 0

-- the previous request of each request
abbrev pub prevs : List Request → List ℕ
prevs rs = listed (prev_of rs) (length rs) 0

-- a lent list after the call: of a sound trace the new numbers stand in front and the rest is kept; else all is kept
abbrev pub laid : Tried → (new old : List ℕ) → List ℕ
laid passes new old = new ++ drop (length new) old
laid (refusal number place) new old = old

-- the lent list of next requests
abbrev pub nexts_in : (trace old : List ℕ) → List ℕ
nexts_in tr old = laid (trace_tried tr) (nexts (trace_in tr).reqs) old

-- the lent list of previous requests
abbrev pub prevs_in : (trace old : List ℕ) → List ℕ
prevs_in tr old = laid (trace_tried tr) (prevs (trace_in tr).reqs) old
