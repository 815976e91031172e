-- What the pass over the requests has found when requests t and later are done, and that one more request keeps it so.
-- Assumes nothing.
use mathlib.Core.Path.{◌≡◌, refl, sym, ◌∙◌, ap, subst}
use Prim.Native.Nat.{ℕ, suc, ◌+◌, ◌*◌, ◌-◌, ◌≤◌, ◌<◌, min}
use native.Mathlib.Omega.{arith}
use native.Mathlib.Decide.{dec_lt}
use native.Mathlib.Nat.{le_trans, mul-le-mul}
use mathlib.Core.Bool.{Bool, true, false, cond}
use mathlib.Core.List.{List, []}
use lib.ListN.{length, get_or, set, drop, length-set, length-drop}
use lib.Seq.{get_or-set_same, get_or-set_other}
use lib.Dec.{eqb, lit≤}
use Rattle.model.specs.Model.{Request, leasts, rents_all}
use Rattle.model.specs.Plans.{request_at, rents_in}
use Rattle.model.specs.Links.{next_of}
use Rattle.model.proofs.Sums.{split}
use Rattle.model.proofs.Links.{next_is}
use Rattle.trace.specs.TraceFile.{slots_at, requests_at, fill_at, kind_at, cost_at, rules_in, trace_in}
use Rattle.trace.proofs.Sound.{reqs_length, req_at}
use Rattle.floor.specs.Pass.{paid_to, Ready}
use Rattle.floor.specs.declared.pass.Price.{Price}
use Rattle.floor.proofs.Lists.{paid_top}
use Rattle.floor.proofs.Backward.{paid_mono, rents_paid, drop_past, own_at, leasts_at, back, least_top}

-- the price of request t's own item from the gap before it on, and the prices of all items asked for then
abbrev pub own_in : (trace rents : List ℕ) → (t : ℕ) → Bool → ℕ
own_in trace rents t b = own_at (rules_in trace) (rents_in rents) (trace_in trace).reqs t b

abbrev pub leasts_in : (trace rents : List ℕ) → (t : ℕ) → ℕ
leasts_in trace rents t = leasts_at (rules_in trace) (rents_in rents) (trace_in trace).reqs t

-- past the last request nothing is to be paid, and all rents lie before
abbrev pub past : (all : ℕ) → Price
past all = record { out = 0; held = all }

-- requests t and later are done (`d` is what would be read beyond the list, where nothing is)
pub record Passed (trace rents : List ℕ) (prices : List Price) (total paid t : ℕ) : Type 0 where
  pub upto : t ≤ requests_at trace
  pub long : length prices ≡ 1025
  pub rest : paid ≡ paid_to (rents_in rents) t
  pub outs : (d : Price) (u : ℕ) → t ≤ u → u ≤ requests_at trace → (get_or prices u d).out ≡ own_in trace rents u false
  pub helds : (d : Price) (u : ℕ) → t ≤ u → u ≤ requests_at trace → (get_or prices u d).held ≡ own_in trace rents u true + paid_to (rents_in rents) u
  pub sum : total ≡ leasts_in trace rents t
  pub small : total + 1000000 * t ≤ 1000000 * requests_at trace

-- the same of a request that has one before it
pub at_suc : {trace rents : List ℕ} {prices : List Price} {total paid t : ℕ} → Passed trace rents prices total paid t → 0 < t
    → Passed trace rents prices total paid (suc (t - 1))
at_suc {trace} {rents} {prices} {total} {paid} {t} p h =
    let q : t ≡ suc (t - 1) = omega arith in subst (λ (k : ℕ). Passed trace rents prices total paid k) q p

module _ {trace rents next : List ℕ} (ready : Ready trace rents next) where
  -- no request's cost is above the limit
  costs_top : (s : ℕ) → s < length (trace_in trace).reqs → (request_at (trace_in trace).reqs s).cost ≤ 1000000
  costs_top s h = let l : s < requests_at trace = omega (arith, reqs_length trace) in rw (req_at trace s l) (ready.sound.costs s l)

  -- no price is above a million for each request to come
  own_top : (u : ℕ) (b : Bool) → own_in trace rents u b ≤ 1024000000
  own_top u b =
      le_trans
      (least_top (rules_in trace) (rents_in rents) (trace_in trace).reqs 1000000 _ u (drop u (trace_in trace).reqs) b refl costs_top)
      (omega (arith, length-drop u (trace_in trace).reqs, reqs_length trace, ready.sound.requests))

  -- nothing is paid from the end on
  own_end : (b : Bool) → own_in trace rents (requests_at trace) b ≡ 0
  own_end b = rw (drop_past (requests_at trace) (trace_in trace).reqs (omega (arith, reqs_length trace)))

  -- a request's next one is after it, and no later than the end
  pub next_range : (t : ℕ) → t < requests_at trace → (t < get_or next t 0) × (get_or next t 0 ≤ requests_at trace)
  next_range t l =
      let k = next_is (trace_in trace).reqs t in
      let e = ready.nexts t l in
      (omega (arith, k.from), omega (arith, k.upto, reqs_length trace))

  -- where the pass begins, at the end n: what is past the last request stands there
  pub passed_start : {all n : ℕ} {prices : List Price} → n ≡ requests_at trace → all ≡ paid_to (rents_in rents) (length rents)
      → length prices ≡ 1025 → ((d : Price) → get_or prices n d ≡ past all) → Passed trace rents prices 0 all n
  passed_start {all} {n} {prices} en e g h =
      let z : drop n (trace_in trace).reqs ≡ [] = drop_past n (trace_in trace).reqs (omega (arith, reqs_length trace)) in
      let v : (b : Bool) → own_in trace rents n b ≡ 0 = λ b. rw en (own_end b) in
      let a : all ≡ paid_to (rents_in rents) n = rw (en, ← ready.count) e in
      record {
        upto = omega arith;
        long = g;
        rest = a;
        outs = λ d u l m. let q : u ≡ n = omega arith in rw q (ap (λ (p : Price). p.out) (h d) ∙ sym (v false));
        helds = λ d u l m. let q : u ≡ n = omega arith in rw q (ap (λ (p : Price). p.held) (h d) ∙ omega (arith, v true));
        sum = rw z;
        small = omega arith;
      }

  -- one more request, number t: its rent x, its next u, and what the list holds there
  module _ {prices : List Price} {after : Price} {total paid t x u : ℕ} (p : Passed trace rents prices total paid (suc t))
      (ex : x ≡ get_or rents t 0) (eu : u ≡ get_or next t 0) (ea : after ≡ get_or prices u (record { out = 0; held = 0 })) where
    en : after.out ≡ (get_or prices u (record { out = 0; held = 0 })).out
    en = ap (λ (p : Price). p.out) ea

    eh : after.held ≡ (get_or prices u (record { out = 0; held = 0 })).held
    eh = ap (λ (p : Price). p.held) ea

    next-eq : u ≡ next_of (trace_in trace).reqs t
    next-eq = eu ∙ ready.nexts t p.upto

    pub record Due : Type 0 where
      pub place : t < 1024
      pub gap : t < length rents
      pub next_place : u < 1025
      pub rent : x ≤ paid
      pub left : paid - x ≡ paid_to (rents_in rents) t
      pub none_is : after.out ≡ own_in trace rents u false
      pub held-is : after.held ≡ own_in trace rents u true + paid_to (rents_in rents) u
      pub below : paid - x ≤ after.held
      pub none-top : after.out ≤ 1024000000
      pub held_top : after.held ≤ 3072000000
      pub total-top : total ≤ 1024000000

    pub due : Due
    due =
        let (a, b) = rw (← eu) at (next_range t p.upto) in
        let v : after.out ≡ own_in trace rents u false = en ∙ p.outs (record { out = 0; held = 0 }) u a b in
        let w : after.held ≡ own_in trace rents u true + paid_to (rents_in rents) u = eh ∙ p.helds (record { out = 0; held = 0 }) u a b in
        let m = paid_mono (rents_in rents) t u (omega arith) in
        let q = paid_top rents 2000000 u ready.within in
        let f = own_top u false in
        let g = own_top u true in
        let s = ready.sound.requests in
        record {
          place = omega (arith, p.upto);
          gap = omega (arith, p.upto, ready.count);
          next_place = omega arith;
          rent = omega (arith, p.rest);
          left = omega (arith, p.rest);
          none_is = v;
          held-is = w;
          below = omega (arith, p.rest);
          none-top = omega arith;
          held_top = omega arith;
          total-top = omega (arith, p.small);
        }

    -- the request's two prices, by the code's equations
    module _ {miss hold none kept : ℕ} (none_out : none ≡ after.out) (kept_held : kept ≡ after.held)
        (missed : miss ≡ cond (eqb (kind_at trace t) 1) none (cost_at trace t + min none (fill_at trace + (kept - (paid - x)))))
        (held : hold ≡ cond (eqb (kind_at trace t) 1) (cost_at trace t) 0 + min none (kept - (paid - x))) where
      em : miss ≡ cond (eqb (kind_at trace t) 1) after.out (cost_at trace t + min after.out (fill_at trace + (after.held - (paid - x))))
      em = rw (none_out, kept_held) at missed

      eo : hold ≡ cond (eqb (kind_at trace t) 1) (cost_at trace t) 0 + min after.out (after.held - (paid - x))
      eo = rw (none_out, kept_held) at held

      pub record Done : Type 0 where
        pub miss-is : miss ≡ own_in trace rents t false
        pub hold-is : hold ≡ own_in trace rents t true
        pub sums : leasts_in trace rents t + after.out ≡ total + miss
        pub miss-top : miss ≤ after.out + 1000000
        pub hold-top : hold ≤ 1024000000

      pub done : Done
      done =
          let d = due in
          let r = req_at trace t p.upto in
          let ew : (request_at (trace_in trace).reqs t).write ≡ eqb (kind_at trace t) 1 = ap (λ (q : Request). q.write) r in
          let ec : (request_at (trace_in trace).reqs t).cost ≡ cost_at trace t = ap (λ (q : Request). q.cost) r in
          let k = back (rules_in trace) (rents_in rents) (trace_in trace).reqs t (omega (arith, reqs_length trace, p.upto)) (after.held - (paid - x))
          (rw (← next-eq) (omega (arith, d.left, d.held-is, d.below))) in
          let o = rw (ew, ec, ← next-eq, ← d.none_is, ← em) at k.out in
          let i = rw (ew, ec, ← next-eq, ← d.none_is, ← eo) at k.kept in
          let s = rw (← next-eq, ← d.none_is, o, ← p.sum) at k.sums in
          let c = ready.sound.costs t p.upto in
          record {
            miss-is = sym o;
            hold-is = sym i;
            sums = s;
            miss-top = rw em (split (eqb (kind_at trace t) 1) (λ e. rw e (omega arith)) (λ e. rw e (omega arith)));
            hold-top = le_trans (rw i (omega arith)) (own_top t true);
          }

      pub passed-step : Passed trace rents (set prices t (record { out = miss; held = hold + (paid - x) })) (total + miss - after.out) (paid - x) t
      passed-step =
          let d = due in
          let k = done in
          record {
            upto = omega (arith, p.upto);
            long = simp length-set p.long;
            rest = d.left;
            outs = λ e v l m. elim (dec_lt t v) [
              | yes z ↦ ap (λ (p : Price). p.out) (get_or-set_other prices t v (record { out = miss; held = hold + (paid - x) }) e (λ q. omega arith)) ∙ p.outs e v z m
              | no z ↦ let q : v ≡ t = omega arith in rw q (ap (λ (p : Price). p.out) (get_or-set_same prices t (record { out = miss; held = hold + (paid - x) }) e (omega (arith, p.long, d.place))) ∙ k.miss-is)
            ];
            helds = λ e v l m. elim (dec_lt t v) [
              | yes z ↦ ap (λ (p : Price). p.held) (get_or-set_other prices t v (record { out = miss; held = hold + (paid - x) }) e (λ q. omega arith)) ∙ p.helds e v z m
              | no z ↦ let q : v ≡ t = omega arith in
                  rw q (ap (λ (p : Price). p.held) (get_or-set_same prices t (record { out = miss; held = hold + (paid - x) }) e (omega (arith, p.long, d.place))) ∙ omega (arith, k.hold-is, d.left))
            ];
            sum = omega (arith, k.sums);
            small = omega (arith, k.sums, k.miss-top, p.small);
          }

-- where the pass ends the sum is that of all items
pub passed_all : {trace rents : List ℕ} {prices : List Price} {total paid : ℕ} → Passed trace rents prices total paid 0
    → total ≡ leasts (trace_in trace) (rents_in rents)
unfolding leasts
passed_all p = p.sum

-- ---- the other side

-- the sum of all rents is what is paid up to the last gap
pub rents_all_lem : {trace rents next : List ℕ} → Ready trace rents next
    → rents_all (trace_in trace) (rents_in rents) ≡ paid_to (rents_in rents) (length rents)
unfolding rents_all
rents_all_lem {trace} {rents} ready =
    let q : 0 + length (trace_in trace).reqs ≡ length rents = omega (arith, reqs_length trace, ready.count) in
    let k = rw q at (rents_paid (rents_in rents) 0 (trace_in trace).reqs) in
    omega (arith, k)

-- w times it is small
pub taken_top : {trace rents next : List ℕ} → Ready trace rents next → slots_at trace * paid_to (rents_in rents) (length rents) ≤ 131072000000
taken_top {trace} {rents} ready =
    let p : paid_to (rents_in rents) (length rents) ≤ 2048000000
    = le_trans (paid_top rents 2000000 (length rents) ready.within) (omega (arith, ready.count, ready.sound.requests)) in
    le_trans (mul-le-mul ready.sound.slots p) (lit≤ tt)
