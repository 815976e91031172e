-- Each turn of the loops lays the numbers of one point and of its request. Assumes nothing.
use mathlib.Core.Path.{◌≡◌, refl, ◌∙◌, ap}
use Prim.Native.Nat.{ℕ, zero, suc, ◌+◌, ◌-◌, ◌≤◌, ◌<◌}
use native.Mathlib.Omega.{arith}
use native.Mathlib.Numerals.{add-one}
use mathlib.Core.Bool.{Bool, true, false, cond}
use mathlib.Core.List.{List, [], ◌++◌}
use lib.ListN.{length, get_or, set, take, drop, length-set, length-drop, drop_of_length-le}
use lib.Seq.{length-take-le}
use lib.Dec.{ltb}
use borrow.Author.Tests.{lt-ltb, le-ltb}
use Rattle.std.proofs.lemmas.List.{append-nil, length-append}
use Rattle.trace.specs.TraceFile.{requests_at}
use Rattle.ways.specs.Ways.{closed, point_source, request_source, source_by, charge_at, kept_by, crowd_step, crowd_by, point_length, request_length, length_by}
use Rattle.ways.specs.Promise.{listed, Sourced, Charged, Measured}
use Rattle.ways.specs.Parts.{put_at, put_both, crowd_before, idle_way, Turned}
use Rattle.ways.proofs.Rows.{listed_step, Says, Laying, laying_start, laying_turn, laying_end, both_laid, length_both}

-- ---- sources

module _ (next prev : List ℕ) (n : ℕ) where
  pub point_named : (g a b c : ℕ) → g < n → a ≡ n + 1 + g → b ≡ g + 1 → c ≡ g - 1 → Says (point_source n) g a b c
  point_named g a b c h x y z =
      record { first = rw (lt-ltb g n h) x; second = rw (lt-ltb g n h) (omega (arith, y)); third = z }

  pub last_named : (a b c : ℕ) → a ≡ n → b ≡ n → c ≡ n - 1 → Says (point_source n) n a b c
  last_named a b c x y z =
      record { first = rw (le-ltb n n (omega arith)) x; second = rw (le-ltb n n (omega arith)) y; third = z }

  pub request_named : (t s p a b c : ℕ) → s ≡ get_or next t 0 → p ≡ get_or prev t 0 → a ≡ n + 1 + cond (ltb s n) s t
      → b ≡ n + 1 + cond (ltb p n) p t → c ≡ t → Says (request_source n next prev) t a b c
  request_named t s p a b c d e x y z = record { first = rw (← d) x; second = rw (← e) y; third = z }

  point_source_lem : (g kind : ℕ) → g < suc n → point_source n g kind ≡ source_by n next prev g kind
  unfolding source_by
  point_source_lem g kind h = rw (le-ltb n g (omega arith))

  request_source_lem : (t kind : ℕ) → t < n → request_source n next prev t kind ≡ source_by n next prev (n + 1 + t) kind
  unfolding source_by
  request_source_lem t kind h =
      let e : n + 1 + t - (n + 1) ≡ t = omega arith in
      rw (lt-ltb n (n + 1 + t) (omega arith), e)

  module _ (old : List ℕ) where
    pub sources-laid : (from : List ℕ) → n ≤ 1024 → length old ≡ 6150
        → from ≡ put_both (point_source n) (request_source n next prev) n (suc n) n old → Sourced n next prev old from
    sources-laid from h l p =
        record {
          laid = rw (le-ltb 1024 n h) (p ∙ both_laid (source_by n next prev) (point_source n) (request_source n next prev) n old (omega arith) point_source_lem request_source_lem);
          long = ap length p ∙ length_both (point_source n) (request_source n next prev) n (suc n) n old;
        }

-- ---- charges

-- the charges of the requests before t are stored
pub record Charging (tr old l : List ℕ) (t : ℕ) : Type 0 where
  pub upto : t ≤ length old
  pub laid : l ≡ listed (charge_at tr) t 0 ++ drop t old
  pub long : length l ≡ length old

module _ (tr old : List ℕ) where
  pub charging_start : Charging tr old old 0
  unfolding listed
  charging_start = record { upto = omega arith; laid = refl; long = refl }

  pub charging_turn : (l : List ℕ) (t a : ℕ) → Charging tr old l t → t < length l → a ≡ charge_at tr t
      → Charging tr old (set l t a) (t + 1)
  charging_turn l t a w h e =
      let long = w.long in
      record {
        upto = omega arith;
        laid = rw (add-one t, e, w.laid) (listed_step (charge_at tr) t old (omega arith));
        long = length-set l t a ∙ w.long;
      }

-- of the first n places of a list
pub charging_end : {tr old l : List ℕ} {n t : ℕ} → n ≡ requests_at tr → n ≤ 1024 → length old ≡ 1024
    → Charging tr (take n old) l t → length (take n old) ≤ t → Charged tr old (l ++ drop n old)
charging_end {tr} {old} {l} {n} {t} e few long w h =
    let part : length (take n old) ≡ n = length-take-le n old (omega arith) in
    let upto = w.upto in
    let all : t ≡ n = omega arith in
    let none : drop n (take n old) ≡ [] = drop_of_length-le (take n old) (omega arith) in
    let is : l ≡ listed (charge_at tr) n 0 = rw (w.laid, all, none) (append-nil (listed (charge_at tr) n 0)) in
    record {
      laid = rw (← e, le-ltb 1024 n few, is) refl;
      long = length-append l (drop n old) ∙ (let a = w.long in let b = length-drop n old in omega arith);
    }

-- ---- lengths

crowd_more : (flags from : List ℕ) (n g : ℕ) → crowd_step flags from n g (crowd_before flags from n g) ≡ crowd_by flags from n g
unfolding crowd_before crowd_by
crowd_more flags from n zero = refl
crowd_more flags from n (suc g) = refl

cond_few : (b : Bool) → cond b 1 0 ≤ 1
cond_few true = omega arith
cond_few false = omega arith

module _ (n fill k : ℕ) (from charges flags worth : List ℕ) where
  abbrev points : ℕ → ℕ → ℕ
  points = point_length n k from flags worth

  abbrev requests : ℕ → ℕ → ℕ
  requests = request_length n fill from charges flags worth

  -- the lengths of t points and of t requests are stored, and c items are held before request t
  pub record Measuring (old len : List ℕ) (c t : ℕ) : Type 0 where
    pub crowd : c ≡ crowd_before flags from n t
    pub few : c ≤ t
    pub lies : Laying (point_length n k from flags worth) (request_length n fill from charges flags worth) n old len t

  point_length_lem : (g kind : ℕ) → g < suc n → point_length n k from flags worth g kind ≡ length_by n fill k from charges flags worth g kind
  unfolding length_by
  point_length_lem g kind h = rw (le-ltb n g (omega arith))

  request_length_lem : (t kind : ℕ) → t < n
      → request_length n fill from charges flags worth t kind ≡ length_by n fill k from charges flags worth (n + 1 + t) kind
  unfolding length_by
  request_length_lem t kind h =
      let e : n + 1 + t - (n + 1) ≡ t = omega arith in
      rw (lt-ltb n (n + 1 + t) (omega arith), e)

  module _ (old : List ℕ) where
    pub measuring-start : length old ≡ 6150 → Measuring old old 0 0
    unfolding crowd_before
    measuring-start h = record { crowd = refl; few = omega arith; lies = laying_start points requests n old h }

    point-says : (g c d x i : ℕ) → g < n → c ≡ crowd_by flags from n g → d ≡ points g 0 → x ≡ cond (ltb c k) 0 closed → i ≡ idle_way worth g
        → Says points g d x i
    point-says g c d x i l e p q r = record { first = p; second = rw (lt-ltb g n l, ← e) q; third = r }

    pub measuring-turn : (len : List ℕ) (c t crowd d a b m x i : ℕ) (len₁ len₂ : List ℕ) → Measuring old len c t → t < n
        → Turned n fill from charges flags worth t c crowd d a b m → x ≡ cond (ltb crowd k) 0 closed → i ≡ idle_way worth t
        → len₁ ≡ put_at len t d x i → len₂ ≡ put_at len₁ (n + 1 + t) a b m → Measuring old len₂ crowd (t + 1)
    unfolding crowd_before
    measuring-turn len c t crowd d a b m x i len₁ len₂ w l s p q e f =
        let z : crowd ≡ crowd_by flags from n t = s.count ∙ rw w.crowd (crowd_more flags from n t) in
        let y : d ≡ points t 0 = rw (lt-ltb t n l) s.drops in
        record {
          crowd = rw (add-one t) z;
          few = omega (arith, w.few, s.count, cond_few (kept_by flags t));
          lies = laying_turn points requests n old len len₁ len₂ t d x i a b m w.lies l (point-says t crowd d x i l z y p q)
              (record { first = s.nexts; second = s.backs; third = s.fills }) e f;
        }

    last_says : (i : ℕ) → i ≡ idle_way worth n → Says points n closed closed i
    last_says i r = record { first = rw (le-ltb n n (omega arith)); second = rw (le-ltb n n (omega arith)); third = r }

    pub measuring-end : (len : List ℕ) (c t i : ℕ) (len' : List ℕ) → Measuring old len c t → n ≤ t → i ≡ idle_way worth n
        → len' ≡ put_at len n closed closed i → len' ≡ put_both points requests n (suc n) n old
    measuring-end len c t i len' w l r e = laying_end points requests n old len len' t closed closed i w.lies l (last_says i r) e

    pub lengths-laid : (len : List ℕ) → n ≤ 1024 → length old ≡ 6150 → len ≡ put_both points requests n (suc n) n old
        → Measured n fill k from charges flags worth old len
    lengths-laid len h l p =
        record {
          laid = rw (le-ltb 1024 n h) (p ∙ both_laid (length_by n fill k from charges flags worth) points requests n old (omega arith) point_length_lem request_length_lem);
          long = ap length p ∙ length_both points requests n (suc n) n old;
        }
