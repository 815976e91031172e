-- What the crate's own functions promise one another while the rows are given. The promise of `lanes` cites none of it.
-- Assumes nothing.
use Rattle.std.specs.Prelude.{◌≡◌, ℕ, ◌≤◌, ◌<◌, List, ◌++◌, length, get_or, drop}
use Rattle.model.specs.Numbers.{max_requests}
use Rattle.model.specs.Plans.{flags_in, SoundFlags}
use Rattle.trace.specs.TraceFile.{requests_at, trace_in}
use Rattle.replay.specs.Linked.{held_by, Backward}
use Rattle.lanes.specs.Lanes.{rows_of, place_for}

-- the previous requests of a sound trace, sound flags, and room for a row a request
pub record Ready (tr flags prevs old : List ℕ) : Type 0 where
  pub back : Backward tr flags prevs
  pub sound : SoundFlags (trace_in tr) (flags_in flags)
  pub long : length flags ≤ length old

-- request t is one of those that the lists have room for
pub record Turn (flags rows : List ℕ) (t : ℕ) : Type 0 where
  pub here : t < length flags
  pub few : length flags ≤ max_requests
  pub long : length flags ≤ length rows

-- the row of request t's item, by the lists
abbrev pub place_by : (flags prevs busy rows : List ℕ) → (t : ℕ) → ℕ
place_by flags prevs busy rows t = place_for (held_by flags prevs t) (get_or rows (get_or prevs t 0) 0) busy

-- the rows stand in front, and the rest is kept
abbrev pub Laying : (tr flags old rows : List ℕ) → Type 0
Laying tr flags old rows = rows ≡ rows_of (trace_in tr) (flags_in flags) ++ drop (requests_at tr) old
