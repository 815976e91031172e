-- The totals where t requests are behind: what is counted and what is left are the whole. Assumes nothing.
use mathlib.Core.Path.{◌≡◌, sym, ◌∙◌, ap, subst}
use Prim.Native.Nat.{ℕ, suc, ◌+◌, ◌≤◌, ◌<◌}
use native.Mathlib.Numerals.{add-one}
use native.Mathlib.Omega.{arith}
use mathlib.Core.Bool.{Bool, cond}
use mathlib.Core.List.{List, [], ◌∷◌}
use lib.ListN.{length, drop, drop_of_length-le}
use lib.Seq.{drop-cons}
use Rattle.model.specs.Model.{Rules, Request, Trace, Contents, misses, fills, strikes, charge, sum_from, cost, count}
use Rattle.model.specs.Plans.{request_at}
use Rattle.model.proofs.Bounds.{no_plan_above}
use Rattle.model.proofs.Sums.{split}
use Rattle.trace.specs.TraceFile.{requests_at, rules_in, request_in, trace_in}
use Rattle.trace.proofs.Sound.{reqs_length, req_at, trace_within}
use Rattle.replay.specs.Replay.{Totals, totals_of, named}
use Rattle.replay.specs.Linked.{flag_at, held_by, Backward, Adds, paid, plus}
use Rattle.replay.proofs.Steps.{none}
use Rattle.replay.proofs.Linked.{held_before, held_after}

-- one more request of a sum
pub sum_step : (f : Request → Bool → Bool → ℕ) (t : ℕ) (rs : List Request) (S : Contents) → t < length rs
    → sum_from f t (drop t rs) S
    ≡ f (request_at rs t) (S t (request_at rs t).item) (S (suc t) (request_at rs t).item) + sum_from f (suc t) (drop (suc t) rs) S
sum_step f t rs S h = rw (drop-cons rs t none h)

-- ---- counts

-- a request counts once at most
pub count_top : (is : Request → Bool → Bool → Bool) (t : ℕ) (rs : List Request) (S : Contents)
    → sum_from (λ r before after. cond (is r before after) 1 0) t rs S ≤ length rs
count_top is t [] S = omega arith
count_top is t (r ∷ rs) S =
    split (is r (S t r.item) (S (suc t) r.item))
    (λ e. rw e (omega (arith, count_top is (suc t) rs S)))
    (λ e. rw e (omega (arith, count_top is (suc t) rs S)))

-- no count is above the number of requests
pub no_count_above : (is : Request → Bool → Bool → Bool) (tr : Trace) (S : Contents) → count is tr S ≤ length tr.reqs
unfolding count
no_count_above is tr S = count_top is 0 tr.reqs S

-- ---- the totals

-- what the requests from gap t on pay and count for
abbrev pub left_from : Rules → (t : ℕ) → List Request → Contents → Totals
left_from ru t rs S =
    record {
      total = sum_from (charge ru) t rs S;
      misses = sum_from (λ r before after. cond (misses r before after) 1 0) t rs S;
      fills = sum_from (λ r before after. cond (fills r before after) 1 0) t rs S;
      strikes = sum_from (λ r before after. cond (strikes r before after) 1 0) t rs S;
    }

-- before the first request nothing is counted
abbrev pub none_yet : Totals
none_yet = record { total = 0; misses = 0; fills = 0; strikes = 0 }

-- what is counted and what is left are the whole
pub record TotalsLeft (tr flags : List ℕ) (sum : Totals) (t : ℕ) : Type 0 where
  pub rest : plus sum (left_from (rules_in tr) t (drop t (trace_in tr).reqs) (named (trace_in tr) flags)) ≡ totals_of (trace_in tr) flags

-- totals are equal when their parts are
pub same_totals : (a b : Totals) → a.total ≡ b.total → a.misses ≡ b.misses → a.fills ≡ b.fills → a.strikes ≡ b.strikes → a ≡ b
same_totals a b p q r s = λ i. record { total = p i; misses = q i; fills = r i; strikes = s i }

plus_turn : (a b c : Totals) → plus (plus a b) c ≡ plus a (plus b c)
plus_turn a b c = same_totals _ _ (omega arith) (omega arith) (omega arith) (omega arith)

plus_none : (a : Totals) → plus a none_yet ≡ a
plus_none a = same_totals _ _ (omega arith) (omega arith) (omega arith) (omega arith)

module _ {tr flags prevs : List ℕ} (b : Backward tr flags prevs) where
  -- what request t pays and counts for
  abbrev pub paid_at : (t : ℕ) → Totals
  paid_at t = paid (rules_in tr) (request_in tr t) (held_by flags prevs t) (flag_at flags t)

  -- the first part of a sum that is left, by the lists
  sum_first : (f : Request → Bool → Bool → ℕ) (t : ℕ) → t < length flags → let S = named (trace_in tr) flags in
      sum_from f t (drop t (trace_in tr).reqs) S
      ≡ f (request_in tr t) (held_by flags prevs t) (flag_at flags t) + sum_from f (suc t) (drop (suc t) (trace_in tr).reqs) S
  sum_first f t l =
      let S = named (trace_in tr) flags in
      let R = request_at (trace_in tr).reqs t in
      let n : t < requests_at tr = omega (arith, b.count) in
      let before : S t R.item ≡ held_by flags prevs t = sym (held_before b t n) in
      let after : S (suc t) R.item ≡ flag_at flags t = held_after tr flags t in
      let one : f R (S t R.item) (S (suc t) R.item) ≡ f (request_in tr t) (held_by flags prevs t) (flag_at flags t) =
      ap (λ (z : Bool). f R z (S (suc t) R.item)) before
      ∙ (ap (λ (z : Bool). f R (held_by flags prevs t) z) after
      ∙ ap (λ (r : Request). f r (held_by flags prevs t) (flag_at flags t)) (req_at tr t n)) in
      sum_step f t (trace_in tr).reqs S (omega (arith, reqs_length tr)) ∙ ap (λ (z : ℕ). z + sum_from f (suc t) (drop (suc t) (trace_in tr).reqs) S) one

  -- what request t pays and counts for is the first part of what is left
  left_step : (t : ℕ) → t < length flags → let S = named (trace_in tr) flags in
      left_from (rules_in tr) t (drop t (trace_in tr).reqs) S
      ≡ plus (paid_at t) (left_from (rules_in tr) (suc t) (drop (suc t) (trace_in tr).reqs) S)
  left_step t l =
      same_totals _ _
      (sum_first (charge (rules_in tr)) t l)
      (sum_first (λ r before after. cond (misses r before after) 1 0) t l)
      (sum_first (λ r before after. cond (fills r before after) 1 0) t l)
      (sum_first (λ r before after. cond (strikes r before after) 1 0) t l)

  pub totals_start : TotalsLeft tr flags none_yet 0
  unfolding cost count
  totals_start = record { rest = same_totals _ _ (omega arith) (omega arith) (omega arith) (omega arith) }

  pub totals_end : {sum : Totals} {t : ℕ} → TotalsLeft tr flags sum t → length flags ≤ t → sum ≡ totals_of (trace_in tr) flags
  totals_end {sum} {t} v l =
      sym (plus_none sum) ∙ (rw (drop_of_length-le (trace_in tr).reqs {i = t} (omega (arith, reqs_length tr, b.count))) at v.rest)

  pub totals_on : {sum : Totals} {t : ℕ} → TotalsLeft tr flags sum t → t < length flags → TotalsLeft tr flags (plus sum (paid_at t)) (t + 1)
  totals_on {sum} {t} v l = record { rest = rw add-one ((plus_turn _ _ _) ∙ (ap (plus sum) (sym (left_step t l)) ∙ v.rest)) }

  -- by what was counted
  pub totals_next : {sum part : Totals} {t : ℕ} → TotalsLeft tr flags sum t → t < length flags → part ≡ paid_at t
      → TotalsLeft tr flags (plus sum part) (t + 1)
  totals_next {sum} {part} {t} v l p = subst (λ (s : Totals). TotalsLeft tr flags s (t + 1)) (sym (ap (plus sum) p)) (totals_on v l)

  -- what is counted stays within the limits
  pub totals_add : {sum : Totals} {t : ℕ} → TotalsLeft tr flags sum t → t < length flags → Adds sum (paid_at t)
  totals_add {sum} {t} v l =
      let S = named (trace_in tr) flags in
      let k = (totals_on v l).rest in
      let few = b.sound.requests in
      record {
        total = omega (arith, ap (λ (s : Totals). s.total) k, no_plan_above (trace_in tr) (trace_within tr b.sound) S);
        misses = omega (arith, ap (λ (s : Totals). s.misses) k, no_count_above misses (trace_in tr) S, reqs_length tr);
        fills = omega (arith, ap (λ (s : Totals). s.fills) k, no_count_above fills (trace_in tr) S, reqs_length tr);
        strikes = omega (arith, ap (λ (s : Totals). s.strikes) k, no_count_above strikes (trace_in tr) S, reqs_length tr);
      }
