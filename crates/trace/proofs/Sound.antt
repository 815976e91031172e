-- A trace that passes rows 1 to 8 is sound, keeps within the limits, and has a request for each record. Assumes nothing.
use mathlib.Core.Path.{◌≡◌, refl, sym, ◌∙◌, ap}
use Prim.Native.Nat.{ℕ, zero, suc, ◌+◌, ◌≤◌, ◌<◌}
use native.Mathlib.Omega.{arith}
use native.Mathlib.Decide.{dec_lt}
use mathlib.Core.Bool.{Bool, true, false, ◌||◌, not}
use mathlib.Core.List.{List}
use lib.ListN.{length}
use lib.Dec.{eqb, ltb}
use borrow.Author.Tests.{ltb-false, eqb-true}
use Rattle.model.specs.Plans.{request_at}
use Rattle.model.specs.Links.{listed}
use Rattle.model.proofs.Links.{length-listed, get_d_listed}
use Rattle.model.specs.Numbers.{max_cost, CostsWithin, Within}
use Rattle.std.proofs.Common.{Result}
use Rattle.model.specs.Refusals.{passes, row, Answer, answered}
use Rattle.model.specs.declared.Refusal.{Refusal}
use Rattle.model.proofs.Refusals.{row_passes, answered_unique}
use Rattle.trace.specs.TraceFile.{requests_at, kind_at, zero_at, cost_at, marked_trace, records_tried, trace_tried, request_in, trace_in, SoundTrace}
use Rattle.trace.proofs.Records.{record_by_record}
use Rattle.trace.specs.declared.Header.{Header}

-- ---- rows

-- a disjunction that fails
neither : (a b : Bool) → (a || b) ≡ false → (a ≡ false) × (b ≡ false)
neither true b h = absurd (let z : ◌≡◌ {A = ℕ} 0 1 = cc in omega arith)
neither false b h = (refl, h)

-- a denial that fails
held : (b : Bool) → not b ≡ false → b ≡ true
held true h = refl
held false h = absurd (let z : ◌≡◌ {A = ℕ} 0 1 = cc in omega arith)

-- the k records from record t on have a kind of 0 or 1 and a cost within the limit
pub records_sound : (k t : ℕ) (tr : List ℕ) → records_tried k t tr ≡ passes → (s : ℕ) → t ≤ s → s < t + k → (kind_at tr s ≤ 1) × (cost_at tr s ≤ max_cost)
records_sound zero t tr h s l m = absurd (omega arith)
records_sound (suc k) t tr h s l m =
    let kind = ltb 1 (kind_at tr t) in
    let zero = not (eqb (zero_at tr t) 0) in
    let cost = ltb max_cost (cost_at tr t) in
    let rest = records_tried k (suc t) tr in
    let seven = row_passes (kind || zero) 7 (suc t) (row cost 8 (suc t) rest) (sym (record_by_record k t tr) ∙ h) in
    let eight = row_passes cost 8 (suc t) rest seven.1 in
    elim (dec_lt t s) [
      | yes z ↦ records_sound k (suc t) tr eight.1 s z (omega arith)
      | no z ↦ let e : s ≡ t = omega arith in
          rw e (ltb-false _ _ (neither kind zero seven.0).0, ltb-false _ _ eight.0)
    ]

-- a trace with none of refusals 1 to 8 is sound
pub sound_trace : (tr : List ℕ) → trace_tried tr ≡ passes → SoundTrace tr
unfolding trace_tried
sound_trace tr h =
    let one = row_passes (ltb (length tr) 12) 1 0 _ h in
    let two = row_passes (not (marked_trace tr)) 2 0 _ one.1 in
    let three = row_passes _ 3 0 _ two.1 in
    let four = row_passes _ 4 0 _ three.1 in
    let five = row_passes _ 5 0 _ four.1 in
    let six = row_passes _ 6 0 _ five.1 in
    let each = records_sound (requests_at tr) 0 tr six.1 in
    record {
      slots = ltb-false _ _ three.0;
      requests = ltb-false _ _ four.0;
      fill = ltb-false _ _ five.0;
      long = eqb-true _ _ (held _ six.0);
      kinds = λ t l. (each t (omega arith) (omega arith)).0;
      costs = λ t l. (each t (omega arith) (omega arith)).1;
    }

-- ---- the requests

-- a request for each record
pub reqs_length : (tr : List ℕ) → length (trace_in tr).reqs ≡ requests_at tr
reqs_length tr = length-listed (request_in tr) (requests_at tr) 0

-- and it is that of the record
pub req_at : (tr : List ℕ) (t : ℕ) → t < requests_at tr → request_at (trace_in tr).reqs t ≡ request_in tr t
req_at tr t h =
    let e : 0 + t ≡ t = omega arith in
    get_d_listed (request_in tr) (requests_at tr) 0 t _ h ∙ ap (request_in tr) e

-- costs that hold record by record hold of the requests
costs_listed : (tr : List ℕ) (k t : ℕ) → ((s : ℕ) → s < t + k → cost_at tr s ≤ max_cost) → CostsWithin max_cost (listed (request_in tr) k t)
costs_listed tr zero t h = tt
costs_listed tr (suc k) t h = (h t (omega arith), costs_listed tr k (suc t) (λ s l. h s (omega arith)))

-- a sound trace keeps within the limits
pub trace_within : (tr : List ℕ) → SoundTrace tr → Within (trace_in tr)
trace_within tr s =
    record {
      slots = s.slots;
      requests = rw (reqs_length tr) s.requests;
      fill = s.fill;
      costs = costs_listed tr (requests_at tr) 0 (λ t l. s.costs t (omega arith));
    }

-- ---- one answer

-- what a call's promise permits is one answer
pub check_unique : (a b : Result Header Refusal) (x : Answer Header) → answered a ≡ x → answered b ≡ x → a ≡ b
check_unique = answered_unique

-- and so is a number that is to equal another
pub number_unique : (a b x : ℕ) → a ≡ x → b ≡ x → a ≡ b
number_unique a b x p q = p ∙ sym q
