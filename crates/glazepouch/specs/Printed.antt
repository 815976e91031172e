-- All that `glazepouch` hands to standard output, command by command.
use Rattle.std.specs.Prelude.{◌≡◌, ℕ, List, [], ◌∷◌}
use Rattle.model.specs.Model.{Least}
use Rattle.model.specs.Refusals.{Tried, passes, refusal}
use Rattle.trace.specs.TraceFile.{trace_in, trace_tried}
use Rattle.pages.specs.Letters.{letters}
use Rattle.sentences.specs.Spelled.{spelled}
use Rattle.sentences.specs.Sentences.{refusal_page}
use Rattle.answers.specs.Answers.{judged_page, audited_page, floored_page}
use Rattle.schedule.specs.Schedule.{heading_line, request_page, last_page}
use Rattle.glazepouch.specs.declared.said.Part.{Part}
use Rattle.glazepouch.specs.declared.said.Part.TheVariants.{Judgement, Totals, Floor, Heading, Request, Last}

-- `judge`, `audit`, `floor`, and the lines of `schedule`
abbrev pub page_of : Part → (trace plan : List ℕ) → List ℕ
page_of Judgement tr pl = judged_page tr pl
page_of Totals tr pl = audited_page tr pl
page_of Floor tr pl = floored_page tr pl
page_of Heading tr pl = heading_line
page_of (Request t) tr pl = request_page tr pl t
page_of Last tr pl = last_page tr pl

-- `least C`
abbrev pub least_page : (cost : ℕ) → List ℕ
least_page cost = spelled (letters "least @\n") (cost ∷ [])

-- `least` and `solve`, by what the trace's rows come to: C is the least cost, or the first row that holds is told
abbrev pub ToldBy : Tried → (trace bytes : List ℕ) → Type 0
ToldBy passes trace bytes = (c : ℕ) × Least (trace_in trace) c × (bytes ≡ least_page c)
ToldBy (refusal number place) trace bytes = bytes ≡ refusal_page number place 0

-- the bytes may be printed of the trace
abbrev pub Told : (trace bytes : List ℕ) → Type 0
Told trace bytes = ToldBy (trace_tried trace) trace bytes
