-- The ways that `ways` lists for the flags and worths of a sound trace are the network's. Assumes nothing.
use mathlib.Core.Path.{◌≡◌, refl, sym, ◌∙◌, ap}
use mathlib.Core.Bool.{Bool, true, false, cond, ◌&&◌, not}
use mathlib.Core.List.{List}
use Prim.Native.Nat.{ℕ, zero, suc, ◌+◌, ◌*◌, ◌-◌, ◌/◌, ◌%◌, ◌≤◌, ◌<◌}
use native.Mathlib.Omega.{arith}
use native.Mathlib.Decide.{dec_lt}
use native.Mathlib.Nat.{mod-eq_of_lt, add-mod_right, mul-add-div}
use lib.ListN.{get_or}
use lib.Dec.{ltb}
use borrow.Author.Tests.{ltb-true, ltb-false, lt-ltb, le-ltb}
use Rattle.model.specs.Model.{Request, Trace}
use Rattle.model.specs.Plans.{Flags, flags_in, request_at}
use Rattle.model.specs.Links.{next_of, prev_of}
use Rattle.model.proofs.Links.{next_is, prev_is, next_of_prev}
use Rattle.model.proofs.Sums.{split}
use Rattle.trace.specs.TraceFile.{requests_at, trace_in}
use Rattle.trace.proofs.Sound.{reqs_length, req_at}
use Rattle.network.specs.Sound.{count, node, missed, struck, reads, after, before, fills_at, drops_at, crowd, Sound}
use Rattle.network.proofs.Bound.{cost_within}
use Rattle.network.proofs.Held.{flag_past, crowd_step_lem, crowd_first}
use Rattle.network.proofs.Limits.{bounded_limit}
use Rattle.ways.specs.Ways.{closed, plus, minus, writes, ahead_of, behind_of, follows, precedes, kept_by, held_by, crowd_by, unheld, now_held, point_source, request_source, point_length, request_length, source_by, length_by}
use Rattle.steps.specs.Lists.{Lists, Fits, points_in, requests_in}
use Rattle.steps.specs.Ways.{Way, no_way, point_way, request_way, way_into}
use Rattle.steps.proofs.WaysLaws.{way_from, way_unfill, way_drop, way_unidle, way_full, way_end, way_idle, way_first, way_undrop, way_fill, way_barred, way_hold, way_unheld, way_unhold, way_kept, at_point, at_request}

-- ---- sums of four bytes that stay below 2^32

plus_is : (a b : ℕ) → a + b < 4294967296 → plus a b ≡ a + b
plus_is a b l = mod-eq_of_lt l

minus_is : (a b : ℕ) → b ≤ a → a < 4294967296 → minus a b ≡ a - b
minus_is a b l m =
    let e : a + 4294967296 - b ≡ (a - b) + 4294967296 = omega arith in
    ap (λ (x : ℕ). x % 4294967296) e ∙ add-mod_right (a - b) 4294967296 ∙ mod-eq_of_lt (omega arith)

-- a charge is its request's, and tells its cost
charge_is : (c b : ℕ) → c ≤ 1000000 → b ≤ 1 → plus (2 * c) b ≡ 2 * c + b
charge_is c b l m = plus_is (2 * c) b (omega arith)

half : (c b : ℕ) → b ≤ 1 → (2 * c + b) / 2 ≡ c
half c b l = mul-add-div (omega arith) c b ∙ omega (arith, small-half b l)
  where
    small-half : (b : ℕ) → b ≤ 1 → b / 2 ≡ 0
    small-half zero l = refl
    small-half (suc zero) l = refl
    small-half (suc (suc b)) l = absurd (omega arith)

odd : (c b : ℕ) → b ≤ 1 → (2 * c + b) % 2 ≡ b
odd zero b l = ap (λ (x : ℕ). x % 2) (omega arith) ∙ mod-eq_of_lt (omega arith)
odd (suc c) b l =
    let e : 2 * suc c + b ≡ (2 * c + b) + 2 = omega arith in
    ap (λ (x : ℕ). x % 2) e ∙ add-mod_right (2 * c + b) 2 ∙ odd c b l

-- ---- listed ways

-- a listed way into node u: none where it is closed
abbrev pub listed : (u from len : ℕ) → Way
listed u from len = cond (ltb len closed) (way_from from len) (no_way u)

open_way : (u from len from' len' : ℕ) (w : Way) → from ≡ from' → len ≡ len' → len' < closed → w ≡ way_from from' len' → listed u from len ≡ w
open_way u from len from' len' w e l h q = rw (e, l, lt-ltb len' closed h) (sym q)

shut_way : (u from len : ℕ) (w : Way) → len ≡ closed → w ≡ no_way u → listed u from len ≡ w
shut_way u from len w l q = rw l (sym q)

swap : (a b : Bool) → a && not b ≡ not b && a
swap true true = refl
swap true false = refl
swap false true = refl
swap false false = refl

and_false : (a b : Bool) → b ≡ false → a && b ≡ false
and_false true b e = e
and_false false b e = refl

module _ (bytes : List ℕ) (n fill k : ℕ) (from charges flags worth : List ℕ) (lists : Lists bytes n fill from charges) (fits : Fits (trace_in bytes) k flags worth) where
  abbrev tr : Trace
  tr = trace_in bytes

  abbrev x : Flags
  x = flags_in flags

  abbrev P : ℕ → ℕ
  P = points_in worth

  abbrev Q : ℕ → ℕ
  Q = requests_in (count tr) worth

  abbrev s : Sound tr k x P Q
  s = fits.sound

  size : count tr ≡ n
  size = reqs_length bytes ∙ sym lists.size

  here : (t : ℕ) → t < n → t < count tr
  here t l = omega (arith, size)

  there : (t : ℕ) → t < n → t < requests_at bytes
  there t l = omega (arith, lists.size)

  node_here : (t : ℕ) → n + 1 + t ≡ node tr t
  node_here t = omega (arith, size)

  worth_here : (t : ℕ) → get_or worth (n + 1 + t) 0 ≡ Q t
  worth_here t = ap (λ (v : ℕ). get_or worth v 0) (node_here t)

  -- ---- the next and the previous request

  module _ (t : ℕ) (l : t < n) where
    abbrev u : ℕ
    u = next_of tr.reqs t

    abbrev p : ℕ
    p = prev_of tr.reqs t

    ahead-is : ahead_of from n t ≡ n + 1 + cond (ltb u n) u t
    unfolding source_by
    ahead-is =
        let i : 3 * (n + 1 + t) ≡ 3 * (n + 1 + t) + 0 = omega arith in
        let e : n + 1 + t - (n + 1) ≡ t = omega arith in
        let c : source_by n lists.next lists.prev (n + 1 + t) 0 ≡ n + 1 + cond (ltb u n) u t = rw (lt-ltb n (n + 1 + t) (omega arith), e, lists.nexts t (there t l)) in
        ap (λ (j : ℕ). get_or from j 0) i ∙ lists.sources (n + 1 + t) 0 (omega arith) (omega arith) ∙ c

    behind-is : behind_of from n t ≡ n + 1 + cond (ltb p n) p t
    unfolding source_by
    behind-is =
        let e : n + 1 + t - (n + 1) ≡ t = omega arith in
        let c : source_by n lists.next lists.prev (n + 1 + t) 1 ≡ n + 1 + cond (ltb p n) p t = rw (lt-ltb n (n + 1 + t) (omega arith), e, lists.prevs t (there t l)) in
        lists.sources (n + 1 + t) 1 (omega arith) (omega arith) ∙ c

    later : u < n → (ahead_of from n t ≡ n + 1 + u) × (follows from n t ≡ true)
    later h =
        let a : ahead_of from n t ≡ n + 1 + u = ahead-is ∙ rw (lt-ltb u n h) in
        (a, rw (a, lt-ltb (n + 1 + t) (n + 1 + u) (omega (arith, (next_is tr.reqs t).from)), lt-ltb (n + 1 + u) (suc (2 * n)) (omega arith)))

    earlier : p < n → (behind_of from n t ≡ n + 1 + p) × (precedes from n t ≡ true)
    earlier h =
        let b : behind_of from n t ≡ n + 1 + p = behind-is ∙ rw (lt-ltb p n h) in
        (b, rw (b, lt-ltb n (n + 1 + p) (omega arith), lt-ltb (n + 1 + p) (n + 1 + t) (omega (arith, (prev_is tr.reqs t (omega (arith, size))).below (omega (arith, size))))))

    first : n ≤ p → precedes from n t ≡ false
    first h =
        let b : behind_of from n t ≡ n + 1 + t = behind-is ∙ rw (le-ltb p n h) in
        rw (b, le-ltb (n + 1 + t) (n + 1 + t) (omega arith)) (and_false (ltb n (n + 1 + t)) false refl)

    held_here : held_by flags from n t ≡ before tr x t
    held_here =
        elim (dec_lt p n) [
          | yes h ↦ let e = earlier h in
              let i : n + 1 + p - (n + 1) ≡ p = omega arith in
              rw (e.1, e.0, i)
          | no h ↦ rw (first (omega arith)) (sym (flag_past tr x s.linked p (omega (arith, size))))
        ]

  pub crowd_here : (g : ℕ) → g < n → crowd_by flags from n g ≡ crowd tr x g
  unfolding crowd_by
  crowd_here zero l = rw (held_here 0 l) (omega (arith, crowd_step_lem tr x s.linked 0 (here 0 l), crowd_first tr x))
  crowd_here (suc g) l =
      rw (crowd_here g (omega arith), held_here (suc g) l)
      (omega (arith, crowd_step_lem tr x s.linked (suc g) (here (suc g) l)))

  -- ---- how high worths and costs stand

  point_limit : (g : ℕ) → g ≤ n → P g ≤ 1024000000
  point_limit g l = (bounded_limit tr k x P Q lists.within s fits.bounded).0 g (omega (arith, size))

  request_limit : (t : ℕ) → t < n → Q t ≤ 2049000000
  request_limit t l = (bounded_limit tr k x P Q lists.within s fits.bounded).1 t (here t l)

  cost_limit : (t : ℕ) → (request_at tr.reqs t).cost ≤ 1000000
  cost_limit = cost_within 1000000 tr.reqs lists.within.costs

  fill_limit : fill ≤ 1000000
  fill_limit = omega (arith, lists.price, lists.within.fill)

  -- ---- what a charge says

  -- a charge c of a request with these kind and cost
  record Charge (c : ℕ) (write : Bool) (cost : ℕ) : Type 0 where
    is-write : writes c ≡ write
    pays : c / 2 ≡ cost

  charged_as : (c cost : ℕ) (write : Bool) → cost ≤ 1000000 → c ≡ plus (2 * cost) (cond write 1 0) → Charge c write cost
  charged_as c cost true l e =
      let z = e ∙ charge_is cost 1 l (omega arith) in
      record { is-write = rw (z, odd cost 1 (omega arith)); pays = rw (z, half cost 1 (omega arith)) }
  charged_as c cost false l e =
      let z = e ∙ charge_is cost 0 l (omega arith) in
      record { is-write = rw (z, odd cost 0 (omega arith)); pays = rw (z, half cost 0 (omega arith)) }

  charge_here : (t : ℕ) → t < n → Charge (get_or charges t 0) (request_at tr.reqs t).write (request_at tr.reqs t).cost
  charge_here t l =
      let m = there t l in
      charged_as (get_or charges t 0) (request_at tr.reqs t).cost (request_at tr.reqs t).write (cost_limit t)
      (lists.charged t m ∙ sym (ap (λ (r : Request). plus (2 * r.cost) (cond r.write 1 0)) (req_at bytes t m)))

  -- ---- into a point

  filled_here : (g : ℕ) → g < n → kept_by flags g && not (held_by flags from n g) ≡ fills_at tr x g
  filled_here g l = rw (held_here g l) (swap (after x g) (before tr x g))

  point_listed : (g kind : ℕ) → g ≤ n → kind < 3 → listed g (point_source n g kind) (point_length n k from flags worth g kind) ≡ point_way tr k x P Q g kind
  point_listed g zero l m =
      elim (dec_lt g n) [
        | yes y ↦ let src : point_source n g 0 ≡ node tr g = rw (lt-ltb g n y) (node_here g) in
            split (fills_at tr x g)
            (λ c. open_way g (point_source n g 0) (point_length n k from flags worth g 0) (node tr g) 0 (point_way tr k x P Q g 0)
            src (rw (lt-ltb g n y, filled_here g y, c)) (omega arith) (way_unfill tr k x P Q g (here g y) c))
            (λ c. open_way g (point_source n g 0) (point_length n k from flags worth g 0) (node tr g) (Q g - P g) (point_way tr k x P Q g 0)
            src (rw (lt-ltb g n y, filled_here g y, c, worth_here g) (minus_is (Q g) (P g) (s.down g (here g y)) (omega (arith, request_limit g y))))
            (omega (arith, request_limit g y)) (way_drop tr k x P Q g (here g y) c))
        | no y ↦ shut_way g (point_source n g 0) (point_length n k from flags worth g 0) (point_way tr k x P Q g 0)
            (rw (le-ltb g n (omega arith))) (way_end tr k x P Q g 0 (omega (arith, size)) (omega arith))
      ]
  point_listed g (suc zero) l m =
      elim (dec_lt g n) [
        | yes y ↦ split (ltb (crowd tr x g) k)
            (λ c. open_way g (point_source n g 1) (point_length n k from flags worth g 1) (suc g) 0 (point_way tr k x P Q g 1)
            (rw (lt-ltb g n y)) (rw (lt-ltb g n y, crowd_here g y, c)) (omega arith) (way_unidle tr k x P Q g (here g y) (ltb-true (crowd tr x g) k c)))
            (λ c. shut_way g (point_source n g 1) (point_length n k from flags worth g 1) (point_way tr k x P Q g 1)
            (rw (lt-ltb g n y, crowd_here g y, c)) (way_full tr k x P Q g (ltb-false (crowd tr x g) k c)))
        | no y ↦ shut_way g (point_source n g 1) (point_length n k from flags worth g 1) (point_way tr k x P Q g 1)
            (rw (le-ltb g n (omega arith))) (way_end tr k x P Q g 1 (omega (arith, size)) (omega arith))
      ]
  point_listed g (suc (suc zero)) l m =
      elim (dec_lt 0 g) [
        | yes y ↦ let q : suc (g - 1) ≡ g = omega arith in
            let falls : P g ≤ P (g - 1) = rw q at (s.idle (g - 1) (omega (arith, size))) in
            open_way g (point_source n g 2) (point_length n k from flags worth g 2) (g - 1) (P (g - 1) - P g) (point_way tr k x P Q g 2)
            refl (rw (lt-ltb 0 g y) (minus_is (P (g - 1)) (P g) falls (omega (arith, point_limit (g - 1) (omega arith)))))
            (omega (arith, point_limit (g - 1) (omega arith))) (way_idle tr k x P Q g y)
        | no y ↦ shut_way g (point_source n g 2) (point_length n k from flags worth g 2) (point_way tr k x P Q g 2)
            (rw (le-ltb 0 g (omega arith))) (way_first tr k x P Q g (omega arith))
      ]
  point_listed g (suc (suc (suc kind))) l m = absurd (omega arith)

  -- ---- into the node of a request

  unheld_is : (q w c cost : ℕ) (write : Bool) → Charge c write cost → cost ≤ 1000000 → q ≤ 2049000000
      → w + cond write cost 0 ≤ q + cond write 0 cost → unheld q w c ≡ q + cond write 0 cost - (w + cond write cost 0)
  unheld_is q w c cost true h l m o =
      rw (h.is-write, h.pays)
      (ap (λ (y : ℕ). minus y w) (minus_is q cost (omega arith) (omega arith)) ∙ minus_is (q - cost) w (omega arith) (omega arith) ∙ omega arith)
  unheld_is q w c cost false h l m o =
      rw (h.is-write, h.pays)
      (ap (λ (y : ℕ). minus y w) (plus_is q cost (omega arith)) ∙ minus_is (q + cost) w (omega arith) (omega arith) ∙ omega arith)

  now_held_is : (q w c cost : ℕ) (write : Bool) → Charge c write cost → cost ≤ 1000000 → q ≤ 2049000000
      → w + cond write 0 cost ≤ q + cond write cost 0 → now_held q w c ≡ q + cond write cost 0 - (w + cond write 0 cost)
  now_held_is q w c cost true h l m o =
      rw (h.is-write, h.pays)
      (ap (λ (y : ℕ). minus y w) (plus_is q cost (omega arith)) ∙ minus_is (q + cost) w (omega arith) (omega arith) ∙ omega arith)
  now_held_is q w c cost false h l m o =
      rw (h.is-write, h.pays)
      (ap (λ (y : ℕ). minus y w) (minus_is q cost (omega arith) (omega arith)) ∙ minus_is (q - cost) w (omega arith) (omega arith) ∙ omega arith)

  missed_limit : (t : ℕ) → missed tr t ≤ 1000000
  missed_limit t = split (request_at tr.reqs t).write (λ e. rw e (omega arith)) (λ e. rw e (cost_limit t))

  struck_limit : (t : ℕ) → struck tr t ≤ 1000000
  struck_limit t = split (request_at tr.reqs t).write (λ e. rw e (cost_limit t)) (λ e. rw e (omega arith))

  module _ (t : ℕ) (l : t < n) where
    -- by holding the item no more up to the next
    ahead-listed : listed (node tr t) (request_source n lists.next lists.prev t 0) (request_length n fill from charges flags worth t 0) ≡ request_way tr k x P Q t 0
    ahead-listed =
        split (after x t)
        (λ a. let u = next_of tr.reqs t in
        let i : u < count tr = s.linked t a in
        let j : u < n = omega (arith, size) in
        let r = later t l j in
        let z : n + 1 + u - (n + 1) ≡ u = omega arith in
        let len = Q u + missed tr u - (Q t + struck tr u) in
        open_way (node tr t) (request_source n lists.next lists.prev t 0) (request_length n fill from charges flags worth t 0) (node tr u) len (request_way tr k x P Q t 0)
        (rw (lists.nexts t (there t l), lt-ltb u n j) (node_here u))
        (rw (r.1, a, r.0, z, worth_here u, worth_here t)
        (unheld_is (Q u) (Q t) (get_or charges u 0) (request_at tr.reqs u).cost (request_at tr.reqs u).write (charge_here u j) (cost_limit u) (request_limit u j) (s.held t (here t l) i a)))
        (omega (arith, request_limit u j, missed_limit u))
        (way_unhold tr k x P Q t i a))
        (λ a. shut_way (node tr t) (request_source n lists.next lists.prev t 0) (request_length n fill from charges flags worth t 0) (request_way tr k x P Q t 0)
        (rw (and_false (follows from n t) (kept_by flags t) a))
        (way_kept tr k x P Q t a))

    -- by holding it from the previous request on
    behind-listed : listed (node tr t) (request_source n lists.next lists.prev t 1) (request_length n fill from charges flags worth t 1) ≡ request_way tr k x P Q t 1
    behind-listed =
        let p = prev_of tr.reqs t in
        elim (dec_lt p n) [
          | yes j ↦ let r = earlier t l j in
              split (before tr x t)
              (λ b. shut_way (node tr t) (request_source n lists.next lists.prev t 1) (request_length n fill from charges flags worth t 1) (request_way tr k x P Q t 1)
              (rw (held_here t l, b, and_false (precedes from n t) false refl))
              (way_unheld tr k x P Q t (rw b (and_false (ltb p (count tr)) false refl))))
              (λ b. let len = Q p + struck tr t - (Q t + missed tr t) in
              let q = (next_of_prev tr.reqs t (here t l) (omega (arith, size))).1 in
              let i : next_of tr.reqs p < count tr = omega (arith, here t l) in
              let d : Q t + missed tr t ≤ Q p + struck tr t = rw q at (s.apart p (here p j) i b) in
              open_way (node tr t) (request_source n lists.next lists.prev t 1) (request_length n fill from charges flags worth t 1) (node tr p) len (request_way tr k x P Q t 1)
              (rw (lists.prevs t (there t l), lt-ltb p n j) (node_here p))
              (rw (held_here t l, b, r.1, r.0, worth_here p, worth_here t)
              (now_held_is (Q p) (Q t) (get_or charges t 0) (request_at tr.reqs t).cost (request_at tr.reqs t).write (charge_here t l) (cost_limit t) (request_limit p j) d))
              (omega (arith, request_limit p j, struck_limit t))
              (way_hold tr k x P Q t (here p j) b))
          | no j ↦ shut_way (node tr t) (request_source n lists.next lists.prev t 1) (request_length n fill from charges flags worth t 1) (request_way tr k x P Q t 1)
              (rw (first t l (omega arith)))
              (way_unheld tr k x P Q t (rw (le-ltb p (count tr) (omega (arith, size)))))
        ]

    -- by its point
    middle-listed : listed (node tr t) (request_source n lists.next lists.prev t 2) (request_length n fill from charges flags worth t 2) ≡ request_way tr k x P Q t 2
    middle-listed =
        let d : held_by flags from n t && not (kept_by flags t) ≡ drops_at tr x t = rw (held_here t l) in
        split (drops_at tr x t)
        (λ c. open_way (node tr t) (request_source n lists.next lists.prev t 2) (request_length n fill from charges flags worth t 2) t 0 (request_way tr k x P Q t 2)
        refl (rw (d, c)) (omega arith) (way_undrop tr k x P Q t c))
        (λ c. split (request_at tr.reqs t).write
        (λ w. shut_way (node tr t) (request_source n lists.next lists.prev t 2) (request_length n fill from charges flags worth t 2) (request_way tr k x P Q t 2)
        (rw (d, c, (charge_here t l).is-write, w)) (way_barred tr k x P Q t c (rw w)))
        (λ w. let r : reads tr t ≡ true = rw w in
        let up : Q t ≤ P t + fill = omega (arith, lists.price, s.up t (here t l) r) in
        let e : P t + fill - Q t ≡ P t + tr.rules.fill - Q t = omega (arith, lists.price) in
        open_way (node tr t) (request_source n lists.next lists.prev t 2) (request_length n fill from charges flags worth t 2) t (P t + tr.rules.fill - Q t) (request_way tr k x P Q t 2)
        refl
        (rw (d, c, (charge_here t l).is-write, w, worth_here t)
        (ap (λ (y : ℕ). minus y (Q t)) (plus_is (P t) fill (omega (arith, point_limit t (omega arith), fill_limit)))
        ∙ minus_is (P t + fill) (Q t) up (omega (arith, point_limit t (omega arith), fill_limit)) ∙ e))
        (omega (arith, point_limit t (omega arith), fill_limit, lists.price))
        (way_fill tr k x P Q t c r)))

  request_listed : (t kind : ℕ) → t < n → kind < 3
      → listed (node tr t) (request_source n lists.next lists.prev t kind) (request_length n fill from charges flags worth t kind) ≡ request_way tr k x P Q t kind
  request_listed t zero l m = ahead-listed t l
  request_listed t (suc zero) l m = behind-listed t l
  request_listed t (suc (suc zero)) l m = middle-listed t l
  request_listed t (suc (suc (suc kind))) l m = absurd (omega arith)

  -- ---- into any node

  pub ways_listed : (u kind : ℕ) → u < suc (2 * n) → kind < 3
      → listed u (source_by n lists.next lists.prev u kind) (length_by n fill k from charges flags worth u kind) ≡ way_into tr k x P Q u kind
  unfolding source_by length_by
  ways_listed u kind l m =
      elim (dec_lt n u) [
        | yes y ↦ let t = u - (n + 1) in
            let e : node tr t ≡ u = omega (arith, size) in
            rw (lt-ltb n u y) (rw e at (request_listed t kind (omega arith) m ∙ sym (at_request tr k x P Q t kind)))
        | no y ↦ rw (le-ltb n u (omega arith)) (point_listed u kind (omega arith) m ∙ sym (at_point tr k x P Q u kind (omega (arith, size))))
      ]
