-- From what checking a trace answers to what the lent lists hold, and that a promise permits one outcome. Assumes nothing.
use mathlib.Core.Path.{◌≡◌, sym, ◌∙◌, ap}
use Prim.Native.Nat.{ℕ, ◌≤◌, ◌<◌}
use native.Mathlib.Omega.{arith}
use mathlib.Core.List.{List, ◌++◌}
use lib.ListN.{length, get_or, take, drop, get_or-append}
use lib.Seq.{get_or-take}
use Rattle.model.specs.Numbers.{max_requests}
use Rattle.model.specs.Model.{Request}
use Rattle.model.specs.Plans.{request_at}
use Rattle.model.specs.Links.{next_of, prev_of, listed}
use Rattle.std.specs.Prelude.{Result, Ok}
use Rattle.model.specs.Refusals.{Tried, passes, answered}
use Rattle.model.specs.declared.Refusal.{Refusal}
use Rattle.model.proofs.Links.{length-listed, get_d_listed}
use Rattle.model.proofs.Refusals.{answer_fine}
use Rattle.trace.specs.TraceFile.{requests_at, trace_tried, trace_in}
use Rattle.trace.specs.Answers.{check_of, header_in}
use Rattle.trace.specs.declared.Header.{Header}
use Rattle.trace.proofs.Sound.{sound_trace, reqs_length, req_at, check_unique}
use Rattle.links.specs.Linked.{nexts, prevs, laid, nexts_in, prevs_in}
use Rattle.links.specs.Promise.{Filled}
use Rattle.links.specs.Chains.{Read, Nexts, Undoes, Laid}
use Rattle.links.proofs.Fills.{front, nexts-are, prevs-are}

-- what is laid down of n numbers
laid_front : (t : Tried) (n : ℕ) (new old : List ℕ) → t ≡ passes → length new ≡ n → laid t new old ≡ new ++ drop n old
laid_front t n new old e l = rw (e, l)

-- ---- a sound one

-- the items are read in the part of the list that is n long
pub read_front : {tr items : List ℕ} (n : ℕ) → Read tr items n → Read tr (take n items) n
read_front {tr} {items} n r = record { on = λ t l. get_or-take n items t 0 l ∙ r.on t l }

module _ (tr : List ℕ) (h : Header) (e : answered (Ok h) ≡ check_of tr) where
  passed : trace_tried tr ≡ passes
  passed = (answer_fine (trace_tried tr) (header_in tr) h e).0

  counted : h.requests ≡ requests_at tr
  counted = ap (λ (x : Header). x.requests) (answer_fine (trace_tried tr) (header_in tr) h e).1

  all : length (trace_in tr).reqs ≡ h.requests
  all = reqs_length tr ∙ sym counted

  pub few_requests : h.requests ≤ max_requests
  few_requests = rw counted (sound_trace tr passed).requests

  module _ {items : List ℕ} (read : Read tr items h.requests) where
    same : (t : ℕ) → t < h.requests → get_or items t 0 ≡ (request_at (trace_in tr).reqs t).item
    same t l = read.on t l ∙ sym (ap (λ (x : Request). x.item) (req_at tr t (omega (arith, counted))))

    pub filled-sound : {next prev next' prev' : List ℕ} → length items ≡ h.requests → Laid items next prev next' prev'
        → Filled tr next prev (Ok h) next' prev'
    filled-sound {next} {prev} {next'} {prev'} count l =
        let rs = (trace_in tr).reqs in
        let n = h.requests in
        let long-nexts = length-listed (next_of rs) (length rs) 0 ∙ all in
        let long-prevs = length-listed (prev_of rs) (length rs) 0 ∙ all in
        let w : Nexts items l.front_next n 0 = rw (← count) l.nexts in
        let u : Undoes l.front_next l.front_prev n n = rw (← count) l.prevs in
        let f : l.front_next ≡ nexts rs =
        rw all (front (next_of rs) n l.front_next (l.all_next ∙ count) (nexts-are rs items n all same l.front_next w)) in
        let g : l.front_prev ≡ prevs rs =
        rw all (front (prev_of rs) n l.front_prev (l.all_prev ∙ count) (prevs-are rs items n all same l.front_next w l.front_prev u)) in
        let x : next' ≡ nexts rs ++ drop n next = rw (← f, ← count) l.rest_next in
        let y : prev' ≡ prevs rs ++ drop n prev = rw (← g, ← count) l.rest_prev in
        record {
          answer = e;
          nexts = x ∙ sym (laid_front (trace_tried tr) n (nexts rs) next passed long-nexts);
          prevs = y ∙ sym (laid_front (trace_tried tr) n (prevs rs) prev passed long-prevs);
        }

-- ---- what a caller finds in the lists of a sound trace

at_front : (f : ℕ → ℕ) (n t : ℕ) (rest : List ℕ) → t < n → get_or (listed f n 0 ++ rest) t 0 ≡ f t
at_front f n t rest l =
    let long = length-listed f n 0 in
    get_or-append (listed f n 0) rest 0 t (omega arith) ∙ get_d_listed f n 0 t 0 l ∙ ap f (omega arith)

pub next_at : (tr old : List ℕ) (t : ℕ) → trace_tried tr ≡ passes → t < requests_at tr
    → get_or (nexts_in tr old) t 0 ≡ next_of (trace_in tr).reqs t
next_at tr old t e l = rw e (at_front (next_of (trace_in tr).reqs) (length (trace_in tr).reqs) t _ (omega (arith, reqs_length tr)))

pub prev_at : (tr old : List ℕ) (t : ℕ) → trace_tried tr ≡ passes → t < requests_at tr
    → get_or (prevs_in tr old) t 0 ≡ prev_of (trace_in tr).reqs t
prev_at tr old t e l = rw e (at_front (prev_of (trace_in tr).reqs) (length (trace_in tr).reqs) t _ (omega (arith, reqs_length tr)))

-- ---- one outcome

-- any two answers and lent lists that the promise permits coincide
pub links_unique : {trace next prev : List ℕ} {r s : Result Header Refusal} {next₁ prev₁ next₂ prev₂ : List ℕ}
    → Filled trace next prev r next₁ prev₁ → Filled trace next prev s next₂ prev₂ → (r ≡ s) × (next₁ ≡ next₂) × (prev₁ ≡ prev₂)
links_unique {trace} {next} {prev} {r} {s} a b =
    (check_unique r s (check_of trace) a.answer b.answer, a.nexts ∙ sym b.nexts, a.prevs ∙ sym b.prevs)
