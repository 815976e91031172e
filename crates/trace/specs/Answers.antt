-- What the calls of `trace` answer, by document 01's numbers. Assumes nothing.
use Rattle.std.specs.Prelude.{ℕ, List}
use Rattle.model.specs.Refusals.{Answer, answer}
use Rattle.trace.specs.TraceFile.{slots_at, requests_at, fill_at, first_at, trace_tried}
use Rattle.trace.specs.declared.Header.{Header}

-- the head of a trace
abbrev pub header_in : List ℕ → Header
header_in tr = record { slots = slots_at tr; requests = requests_at tr; fill = fill_at tr; first = first_at tr }

-- a refusal 1 to 8, or the header
abbrev pub check_of : List ℕ → Answer Header
check_of tr = answer (trace_tried tr) (header_in tr)
