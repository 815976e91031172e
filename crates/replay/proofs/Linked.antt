-- What the lists of next and previous requests say of the contents that flags name. Assumes nothing.
use mathlib.Core.Path.{◌≡◌, refl, sym, ◌∙◌, ap}
use Prim.Native.Nat.{ℕ, suc, ◌<◌}
use native.Mathlib.Omega.{arith}
use mathlib.Core.Bool.{Bool, ◌||◌, ◌&&◌, not}
use mathlib.Core.List.{List}
use lib.ListN.{length, drop}
use lib.Dec.{eqb}
use borrow.Author.Tests.{eq-eqb}
use Rattle.model.specs.Model.{Rules, Request, may}
use Rattle.model.specs.Plans.{request_at, flags_in, may_flag}
use Rattle.model.proofs.Links.{held-prev, has_next}
use Rattle.model.proofs.Sums.{split}
use Rattle.trace.specs.TraceFile.{requests_at, kind_at, rules_in, trace_in}
use Rattle.trace.proofs.Sound.{reqs_length, req_at}
use Rattle.replay.specs.Replay.{named}
use Rattle.replay.specs.Linked.{flag_at, held_by, stray_by, Backward, Forward}

-- after its own request an item is held as the flag says
pub held_after : (tr flags : List ℕ) (t : ℕ) → named (trace_in tr) flags (suc t) (request_at (trace_in tr).reqs t).item ≡ flag_at flags t
held_after tr flags t = rw (eq-eqb (request_at (trace_in tr).reqs t).item _ refl)

-- before it as the flag of its previous request says
pub held_before : {tr flags prevs : List ℕ} → Backward tr flags prevs → (t : ℕ) → t < requests_at tr
    → held_by flags prevs t ≡ named (trace_in tr) flags t (request_at (trace_in tr).reqs t).item
held_before {tr} {flags} {prevs} b t l =
    let n : length (trace_in tr).reqs ≡ length flags = reqs_length tr ∙ sym b.count in
    let k = held-prev (trace_in tr).reqs (flags_in flags) t (request_at (trace_in tr).reqs t).item (omega (arith, reqs_length tr)) in
    rw (b.prev t l, ← n) (sym k)

-- the item of a request may be held after it if it was before, or if the request is a read
may_own : (ru : Rules) (t : ℕ) (r : Request) (b : Bool) → may ru t r r.item b ≡ (b || not r.write)
may_own ru t r b = rw (eq-eqb r.item r.item refl) (split r.write (λ e. rw e) (λ e. rw e))

-- a flag is astray when it is 1 and may not be
pub stray_is : {tr flags nexts prevs : List ℕ} → Forward tr flags nexts prevs → (t : ℕ) → t < requests_at tr
    → stray_by tr flags nexts prevs t
    ≡ (flags_in flags (suc t)
    && not (may_flag (rules_in tr) t (request_at (trace_in tr).reqs t) (drop (suc t) (trace_in tr).reqs) (named (trace_in tr) flags)))
stray_is {tr} {flags} {nexts} {prevs} f t l =
    let rs = (trace_in tr).reqs in
    let r = request_at rs t in
    let n : length rs ≡ length flags = reqs_length tr ∙ sym f.back.count in
    let b = held_before f.back t l in
    let m = may_own (rules_in tr) t r (named (trace_in tr) flags t r.item) in
    let e = has_next rs t (omega (arith, reqs_length tr)) in
    let w : r.write ≡ eqb (kind_at tr t) 1 = ap (λ (q : Request). q.write) (req_at tr t l) in
    rw (b, f.next t l, ← n, ← e, ← w, ← m)
