-- The laws of the rows at work: reads of items 1 2 1 3 3 2 with two slots, where item 3 takes the row that item 1 gives free.
-- Assumes nothing.
use mathlib.Core.Path.{refl}
use Prim.Native.Nat.{ℕ}
use native.Mathlib.Omega.{arith}
use mathlib.Core.Bool.{false}
use mathlib.Core.List.{List, [], ◌∷◌}
use Rattle.fields.specs.Bytes.{num_at, bytes_of}
use Rattle.model.specs.Model.{Request, Trace}
use Rattle.model.specs.Plans.{flags_in}
use Rattle.std.specs.Prelude.{Ok}
use Rattle.trace.specs.TraceFile.{trace_tried, trace_in, trace_bytes}
use Rattle.replay.specs.Replay.{flags_tried, replay_tried}
use Rattle.lanes.specs.Lanes.{Drawn, rows_of, Laned}
use Rattle.lanes.proofs.Laws.{lanes_drawn}

abbrev read : ℕ → Request
read i = record { write = false; item = i; cost = 10 }

abbrev tr : Trace
tr = record { rules = record { slots = 2; fill = 4 }; reqs = read 1 ∷ read 2 ∷ read 1 ∷ read 3 ∷ read 3 ∷ read 2 ∷ [] }

abbrev bytes : List ℕ
bytes = trace_bytes tr

abbrev flags : List ℕ
flags = 1 ∷ 1 ∷ 0 ∷ 1 ∷ 0 ∷ 0 ∷ []

-- what the call leaves in a lent list of eight
pub example_laned : Laned bytes flags (7 ∷ 7 ∷ 7 ∷ 7 ∷ 7 ∷ 7 ∷ 7 ∷ 7 ∷ []) (Ok tt) (0 ∷ 1 ∷ 0 ∷ 0 ∷ 0 ∷ 0 ∷ 7 ∷ 7 ∷ [])
unfolding replay_tried trace_tried flags_tried num_at bytes_of rows_of
example_laned = record { answer = refl; laid_out = refl }

-- which is a chart
pub example_drawn : Drawn (trace_in bytes) (flags_in flags) (0 ∷ 1 ∷ 0 ∷ 0 ∷ 0 ∷ 0 ∷ [])
unfolding num_at bytes_of
example_drawn = lanes_drawn example_laned refl

-- rows that put items 1 and 2 in one slot are none: both are held in gap 2
pub one_slot_for_two_fails : Drawn (trace_in bytes) (flags_in flags) (0 ∷ 0 ∷ 0 ∷ 0 ∷ 0 ∷ 0 ∷ []) → ⊥
unfolding num_at bytes_of
one_slot_for_two_fails d = d.apart 2 1 2 (omega arith) refl refl (λ e. omega arith) refl
