-- The rows that are given show every held item in a row of its own; and what the call's promise permits is one outcome.
-- Assumes nothing.
use mathlib.Core.Path.{◌≡◌, refl, sym, ◌∙◌, ap, subst}
use Prim.Native.Nat.{ℕ, suc, ◌≤◌, ◌<◌}
use native.Mathlib.Omega.{arith}
use mathlib.Core.Bool.{true}
use mathlib.Core.List.{List, ◌++◌}
use lib.ListN.{length, get_or, drop, take}
use lib.Seq.{take_at}
use borrow.Author.Tests.{eq-eqb}
use Rattle.model.specs.Numbers.{max_slots, max_requests}
use Rattle.model.specs.Model.{Trace}
use Rattle.model.specs.Plans.{Flags, flags_in, request_at, contents, SoundFlags}
use Rattle.model.specs.Links.{prev_to, prev_of}
use Rattle.std.specs.Prelude.{Result, Ok}
use Rattle.model.specs.Refusals.{passes, refusal, number_of, place_of, said, fine, refused}
use Rattle.model.specs.declared.Refusal.{Refusal}
use Rattle.model.proofs.Refusals.{answer_fine, answer_refused, said_unique}
use Rattle.trace.specs.TraceFile.{requests_at, trace_tried, trace_in}
use Rattle.trace.specs.Answers.{check_of, header_in}
use Rattle.trace.specs.declared.Header.{Header}
use Rattle.trace.proofs.Sound.{sound_trace, reqs_length}
use Rattle.links.specs.Promise.{Filled}
use Rattle.replay.specs.Replay.{Totals, totals_of, replay_tried, replay_of}
use Rattle.replay.proofs.Laws.{replay_passes, flags_sound}
use Rattle.replay.proofs.Answered.{filled_forward}
use Rattle.lanes.specs.Lanes.{Drawn, row_in, place_at, chart_to, rows_of, Laned}
use Rattle.lanes.specs.Steps.{Ready}
use Rattle.lanes.proofs.Charts.{keeper_below, chart_shows, chart_each, chart_keeps, chart_row}

-- ---- sound flags

-- a row for each request
pub rows_each : (tr : Trace) (x : Flags) → length (rows_of tr x) ≡ length tr.reqs
unfolding rows_of
rows_each tr x = chart_each tr.reqs x (length tr.reqs)

-- the row of a held item is that of the chart up to its gap
row_then : (tr : Trace) (x : Flags) (g i : ℕ) → g ≤ length tr.reqs → contents tr.reqs x g i ≡ true
    → row_in tr.reqs (rows_of tr x) g i ≡ row_in tr.reqs (chart_to tr.reqs x g).rows g i
unfolding rows_of
row_then tr x g i l h = chart_keeps tr.reqs x (length tr.reqs) g (prev_to tr.reqs g i) (keeper_below tr.reqs x g i l h) l

-- an item that is kept on keeps its row
row_stays : (tr : Trace) (x : Flags) (t : ℕ) → t < length tr.reqs → contents tr.reqs x t (request_at tr.reqs t).item ≡ true
    → contents tr.reqs x (suc t) (request_at tr.reqs t).item ≡ true → get_or (rows_of tr x) t 0 ≡ get_or (rows_of tr x) (prev_of tr.reqs t) 0
unfolding rows_of
row_stays tr x t l h k =
    let rs = tr.reqs in
    let a : x (suc t) ≡ true = rw (eq-eqb (request_at rs t).item (request_at rs t).item refl) at k in
    let p : place_at rs x t (chart_to rs x t) ≡ get_or (chart_to rs x t).rows (prev_of rs t) 0 = rw h in
    chart_keeps rs x (length rs) (suc t) t (omega arith) l
    ∙ chart_row rs x t
    ∙ rw a p
    ∙ sym (chart_keeps rs x (length rs) t (prev_of rs t) (keeper_below rs x t (request_at rs t).item (omega arith) h) (omega arith))

-- every held item has a row of a slot, and no row shows two items in one gap
pub rows_drawn : (tr : Trace) (x : Flags) → SoundFlags tr x → tr.rules.slots ≤ max_slots → Drawn tr x (rows_of tr x)
rows_drawn tr x s few =
    let rs = tr.reqs in
    record {
      each = rows_each tr x;
      has = λ g i l h. omega (arith, rows_each tr x, keeper_below rs x g i l h);
      within = λ g i l h. omega (arith, row_then tr x g i l h, (chart_shows tr x s few g l).within i h);
      apart = λ g i j l h k n e. n ((chart_shows tr x s few g l).apart i j h k (sym (row_then tr x g i l h) ∙ e ∙ row_then tr x g j l k));
      stays = row_stays tr x;
    }

-- ---- the call

-- where no row holds: the lists are ready for the rows
pub lists_ready : {tr flags old on op nexts prevs : List ℕ} {r : Result Header Refusal} {s : Totals} → fine s ≡ replay_of tr flags → Filled tr on op r nexts prevs
    → length old ≡ max_requests → Ready tr flags prevs old
lists_ready {tr} {flags} {old} {s = s} e f n =
    let p = replay_passes tr flags (answer_fine (replay_tried tr flags) (totals_of (trace_in tr) flags) s e).0 in
    record {
      back = (filled_forward f p.trace p.count).back;
      sound = flags_sound (trace_in tr) flags p.rows;
      long = omega (arith, p.count, (sound_trace tr p.trace).requests);
    }

-- a trace whose replay passes is not refused
pub replay_sound : (tr flags : List ℕ) (s : Totals) (r : Refusal) → fine s ≡ replay_of tr flags → refused (number_of r) (place_of r) ≡ check_of tr → ⊥
replay_sound tr flags s r e f =
    let p = replay_passes tr flags (answer_fine (replay_tried tr flags) (totals_of (trace_in tr) flags) s e).0 in
    let q = answer_refused (trace_tried tr) (header_in tr) (number_of r) (place_of r) f in
    let z : passes ≡ refusal (number_of r) (place_of r) = sym p.trace ∙ q in
    let one : ◌≡◌ {A = ℕ} 0 1 = cc in
    omega arith

-- as many rows as requests
rows_count : (tr flags : List ℕ) → length (rows_of (trace_in tr) (flags_in flags)) ≡ requests_at tr
rows_count tr flags = rows_each (trace_in tr) (flags_in flags) ∙ reqs_length tr

-- where the call answers Ok, the first n of the lent list are a chart: no row shows two items in one gap
pub lanes_drawn : {trace flags old rows : List ℕ} {r : Result Unit Refusal} → Laned trace flags old r rows → r ≡ Ok tt
    → Drawn (trace_in trace) (flags_in flags) (take (requests_at trace) rows)
lanes_drawn {trace} {flags} {old} {rows} {r} a e =
    let k : replay_tried trace flags ≡ passes = sym a.answer ∙ ap said e in
    let p = replay_passes trace flags k in
    let new = rows_of (trace_in trace) (flags_in flags) in
    let q : rows ≡ new ++ drop (length new) old = rw k at a.laid_out in
    let front : take (requests_at trace) rows ≡ new = ap (take (requests_at trace)) q ∙ take_at new _ (requests_at trace) (rows_count trace flags) in
    subst (Drawn (trace_in trace) (flags_in flags)) (sym front)
    (rows_drawn (trace_in trace) (flags_in flags) (flags_sound (trace_in trace) flags p.rows) (sound_trace trace p.trace).slots)

-- ---- one outcome

-- any two answers and lent lists that the promise permits coincide
pub lanes_unique : {trace flags old : List ℕ} {r s : Result Unit Refusal} {rows₁ rows₂ : List ℕ} → Laned trace flags old r rows₁ → Laned trace flags old s rows₂
    → (r ≡ s) × (rows₁ ≡ rows₂)
lanes_unique {trace} {flags} {old} {r} {s} a b =
    (said_unique r s (replay_tried trace flags) a.answer b.answer, a.laid_out ∙ sym b.laid_out)
