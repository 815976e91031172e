-- A schedule's lines: the one of a sound plan's request, and some computed from their numbers.
use mathlib.Core.Path.{◌≡◌, refl}
use Prim.Native.Nat.{ℕ, ◌<◌}
use mathlib.Core.Bool.{true, false}
use mathlib.Core.List.{List}
use borrow.Author.Tests.{lt-ltb}
use Rattle.model.specs.Refusals.{passes}
use Rattle.trace.specs.TraceFile.{requests_at}
use Rattle.audit.specs.Audit.{audit_tried}
use Rattle.replay.specs.declared.Row.TheVariants.{ReadFill, ReadPast}
use Rattle.decimal.specs.Decimal.{decimal}
use Rattle.pages.specs.Letters.{letters}
use Rattle.sentences.specs.Spelled.{shown_of, sign_of, spelled}
use Rattle.schedule.specs.Schedule.{step_line, schedule_line, request_page}

-- what is laid for a request of a plan that passes the audit is its line
pub request_line : (tr pl : List ℕ) (t : ℕ) → audit_tried tr pl ≡ passes → t < requests_at tr → request_page tr pl t ≡ schedule_line tr pl t
request_line tr pl t e h = rw (e, lt-ltb t (requests_at tr) h)

-- used on two lines of samples/V17
first : step_line (record { no = 1; write = false; item = 2; cost = 10; before = false; after = true; charge = 14; row = ReadFill; within = 1; slots = 2; rent = 0 })
    ≡ letters "   1  read       2       10  no      yes         14  miss and fill  1 of 2          0\n"
unfolding spelled sign_of shown_of decimal
first = refl

-- numbers that take more room than their run are made good by the next
wide : step_line (record { no = 4; write = false; item = 1; cost = 10; before = false; after = false; charge = 10; row = ReadPast; within = 12; slots = 64; rent = 6 })
    ≡ letters "   4  read       1       10  no      no          10  miss, pass by  12 of 64        6\n"
unfolding spelled sign_of shown_of decimal
wide = refl
