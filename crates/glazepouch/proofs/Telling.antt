-- The page of what solve may answer is what `least` and `solve` may print.
use mathlib.Core.Path.{◌≡◌, ◌∙◌, ap}
use Prim.Native.Nat.{ℕ}
use mathlib.Core.List.{List}
use lib.ListN.{take}
use Rattle.model.specs.Refusals.{Tried, passes, refusal, Answer}
use Rattle.trace.specs.TraceFile.{trace_tried}
use Rattle.solver.proofs.Promise.{LeastBy, LeastOf}
use Rattle.pages.specs.Pages.{Lies}
use Rattle.pages.proofs.Laws.{lies_first}
use Rattle.sentences.specs.Sentences.{answer_page}
use Rattle.glazepouch.specs.Printed.{least_page, ToldBy, Told}

page_by : (trace : List ℕ) (t : Tried) (a : Answer ℕ) → LeastBy t trace a → ToldBy t trace (answer_page 0 least_page a)
page_by trace passes a l = (l.0, l.1, ap (answer_page 0 least_page) l.2)
page_by trace (refusal number place) a l = ap (answer_page 0 least_page) l

pub told_page : (trace : List ℕ) (a : Answer ℕ) {old : List ℕ} {r : ℕ} {new bytes : List ℕ} → LeastOf trace a
    → Lies (answer_page 0 least_page a) old r new → bytes ≡ take r new → Told trace bytes
told_page trace a p l e =
    let q = e ∙ lies_first l in
    rw q (page_by trace (trace_tried trace) a p)
