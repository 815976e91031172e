-- The rows of a trace's bytes where t requests are behind: the lists are the chart of the first t, and the rest is kept. Assumes nothing.
use mathlib.Core.Path.{◌≡◌, sym, ◌∙◌, ap}
use Prim.Native.Nat.{ℕ, suc, ◌+◌, ◌≤◌, ◌<◌}
use native.Mathlib.Numerals.{add-one}
use native.Mathlib.Omega.{arith}
use mathlib.Core.Bool.{cond}
use mathlib.Core.List.{List, ◌++◌, append_assoc}
use lib.ListN.{length, get_or, drop, set, length-set, get_or-append}
use lib.Seq.{drop-cons, set_at}
use Rattle.model.specs.Numbers.{max_slots}
use Rattle.model.specs.Plans.{flags_in, request_at, contents}
use Rattle.model.specs.Links.{prev_of}
use Rattle.model.proofs.Sums.{split}
use Rattle.trace.specs.TraceFile.{requests_at, trace_in}
use Rattle.trace.proofs.Sound.{reqs_length}
use Rattle.replay.specs.Linked.{flag_at}
use Rattle.replay.proofs.Linked.{held_before}
use Rattle.lanes.specs.Lanes.{place_at, chart_to, rows_of}
use Rattle.lanes.specs.Steps.{Ready, place_by, Laying}
use Rattle.lanes.proofs.Charts.{keeper_below, chart_place_low, chart_each}

-- ---- the loop

-- the lists are the chart of the first t requests, and the rest is kept
pub record Drawing (tr flags old busy rows : List ℕ) (t : ℕ) : Type 0 where
  pub upto : t ≤ length flags
  pub long : length rows ≡ length old
  pub spare : length busy ≡ suc max_slots
  pub taken : busy ≡ (chart_to (trace_in tr).reqs (flags_in flags) t).busy
  pub given : rows ≡ (chart_to (trace_in tr).reqs (flags_in flags) t).rows ++ drop t old

module _ {tr flags prevs old busy rows : List ℕ} {t : ℕ} (b : Ready tr flags prevs old) (v : Drawing tr flags old busy rows t) where
  -- the row by the lists is that of the chart
  drawing_place : t < length flags
      → place_by flags prevs busy rows t ≡ place_at (trace_in tr).reqs (flags_in flags) t (chart_to (trace_in tr).reqs (flags_in flags) t)
  drawing_place l =
      let rs = (trace_in tr).reqs in
      let x = flags_in flags in
      let own = (request_at rs t).item in
      let n : t < requests_at tr = omega (arith, b.back.count) in
      split (contents rs x t own)
      (λ e. let k : get_or rows (prev_of rs t) 0 ≡ get_or (chart_to rs x t).rows (prev_of rs t) 0 =
      rw v.given (get_or-append (chart_to rs x t).rows (drop t old) 0 (prev_of rs t)
      (omega (arith, chart_each rs x t, keeper_below rs x t own (omega (arith, reqs_length tr)) e))) in
      rw (held_before b.back t n, e, b.back.prev t n) k)
      (λ e. rw (held_before b.back t n, e, v.taken))

  -- and is one of those that there are
  pub drawing_low : t < length flags → place_by flags prevs busy rows t ≤ max_slots
  drawing_low l =
      rw (drawing_place l)
      (chart_place_low (trace_in tr) (flags_in flags) b.sound b.back.sound.slots t (omega (arith, reqs_length tr, b.back.count)))

  -- one request more
  pub drawing_on : (here mark row : ℕ) → t < length flags → here ≡ place_by flags prevs busy rows t
      → mark ≡ cond (flag_at flags t) 1 0 → row ≡ cond (flag_at flags t) here 0 → Drawing tr flags old (set busy here mark) (set rows t row) (t + 1)
  drawing_on here mark row l e f g =
      let rs = (trace_in tr).reqs in
      let x = flags_in flags in
      let m : t < length old = omega (arith, b.long) in
      let q : here ≡ place_at rs x t (chart_to rs x t) = e ∙ drawing_place l in
      let cut = set_at (chart_to rs x t).rows (get_or old t 0) (drop (suc t) old) row t (chart_each rs x t) in
      let k : row ≡ cond (flag_at flags t) (place_at rs x t (chart_to rs x t)) 0 = g ∙ ap (λ (z : ℕ). cond (flag_at flags t) z 0) q in
      record {
        upto = omega arith;
        long = length-set rows t row ∙ v.long;
        spare = length-set busy here mark ∙ v.spare;
        taken = rw (add-one, f, q, v.taken);
        given = rw (add-one, v.given, drop-cons old t 0 m, append_assoc, ← k) cut;
      }

  pub drawing_end : length flags ≤ t → Laying tr flags old rows
  unfolding rows_of
  drawing_end l =
      let e : t ≡ requests_at tr = omega (arith, b.back.count) in
      let n : length (trace_in tr).reqs ≡ requests_at tr = reqs_length tr in
      v.given
      ∙ ap (λ (k : ℕ). (chart_to (trace_in tr).reqs (flags_in flags) k).rows ++ drop t old) (e ∙ sym n)
      ∙ ap (λ (k : ℕ). rows_of (trace_in tr) (flags_in flags) ++ drop k old) e
