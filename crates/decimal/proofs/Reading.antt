-- The loop that reads digits, the cases of the number at a place, and that a place has one answer.
use mathlib.Core.Path.{◌≡◌, refl, sym, ◌∙◌, ap}
use Prim.Native.Nat.{ℕ, suc, ◌+◌, ◌*◌, ◌-◌, ◌≤◌, ◌<◌}
use native.Mathlib.Omega.{arith}
use mathlib.Core.Bool.{true, false, cond, false≢true}
use mathlib.Core.List.{List, [], ◌∷◌}
use lib.ListN.{length, get_or, drop, drop_of_length-le, length-drop}
use lib.Seq.{drop-cons}
use lib.Dec.{eqb, ltb}
use borrow.Author.Tests.{lt-ltb, le-ltb, ltb-true, ltb-false, eq-eqb, ne_eqb, eqb-true}
use Rattle.pages.proofs.Laws.{split}
use Rattle.decimal.specs.Decimal.{digit, starts_digit, digit_in, found, none, digits_from, numeral}
use Rattle.std.specs.Prelude.{Option, Some, None}
use Rattle.decimal.specs.declared.Number.{Number}
use Rattle.decimal.specs.Said.{Reads}
use Rattle.decimal.proofs.Laws.{over, byte_back}

-- ---- the digit at a place

-- past the end there is none
pub digit_past : (l : List ℕ) (at : ℕ) → length l ≤ at → 10 ≡ digit_in (drop at l)
digit_past l at h = rw (drop_of_length-le l h)

-- below 10 a digit stands there
digit_first : (l : List ℕ) → digit_in l < 10 → starts_digit l ≡ true
digit_first [] h = absurd (omega arith)
digit_first (b ∷ l) h = split (digit b) (λ e. e) (λ e. let z : 10 < 10 = rw e at h in absurd (omega arith))

-- from 10 on none does
digit_none : (l : List ℕ) → 10 ≤ digit_in l → starts_digit l ≡ false
digit_none [] h = refl
digit_none (b ∷ l) h =
    split (digit b)
    (λ e.
    let s = byte_back b e in
    let z : 10 ≤ b - 48 = rw e at h in
    absurd (omega (arith, s.0, s.1)))
    (λ e. e)

-- a digit lies inside the text
pub digit_inside : (l : List ℕ) (at : ℕ) → digit_in (drop at l) < 10 → at < length l
digit_inside l at h =
    split (ltb at (length l))
    (λ e. ltb-true at (length l) e)
    (λ e. absurd (omega (arith, digit_past l at (ltb-false at (length l) e))))

-- ---- the loop: what is left of the text decides

-- one digit more
one_digit : (top x : ℕ) (l : List ℕ) (at : ℕ) → digit_in (drop at l) < 10
    → digits_from top x (drop at l)
    ≡ cond (ltb top (10 * x + digit_in (drop at l))) none (digits_from top (10 * x + digit_in (drop at l)) (drop (suc at) l))
one_digit top x l at h =
    let i = digit_inside l at h in
    let s : digit (get_or l at 0) ≡ true = rw (drop-cons l at 0 i) at (digit_first (drop at l) h) in
    rw (drop-cons l at 0 i, s)

-- the digits from `at` up to `next` make `value`
pub record Reading (text : List ℕ) (at top value next : ℕ) : Type 0 where
  pub same : digits_from top 0 (drop at text) ≡ digits_from top value (drop next text)
  pub small : value ≤ top
  pub inside : next ≤ length text

module _ (text : List ℕ) (at top value next d : ℕ) (r : Reading text at top value next) (first : d ≡ digit_in (drop next text)) where
  pub reading_on : d < 10 → 10 * value + d ≤ top → Reading text at top (10 * value + d) (next + 1)
  reading_on h s =
      let n : next + 1 ≡ suc next = omega arith in
      let k : digit_in (drop next text) < 10 = omega (arith, first) in
      let m : digits_from top value (drop next text) ≡ digits_from top (10 * value + d) (drop (suc next) text)
      = rw (← first, le-ltb top (10 * value + d) s) at (one_digit top value text next k) in
      record { same = r.same ∙ rw n m; small = s; inside = omega (arith, digit_inside text next k) }

  pub reading_large : d < 10 → top < 10 * value + d → none ≡ digits_from top 0 (drop at text)
  reading_large h s =
      let k : digit_in (drop next text) < 10 = omega (arith, first) in
      let m : digits_from top value (drop next text) ≡ none
      = rw (← first, lt-ltb top (10 * value + d) s) at (one_digit top value text next k) in
      sym (r.same ∙ m)

  pub reading_ends : 10 ≤ d → found value (drop next text) ≡ digits_from top 0 (drop at text)
  reading_ends h = sym (r.same ∙ over top value (drop next text) (digit_none (drop next text) (omega (arith, first))))

-- ---- the number at a place

-- where no digit stands there is none
none_first : (top : ℕ) (l : List ℕ) → starts_digit l ≡ false → none ≡ numeral top l
unfolding numeral
none_first top [] h = refl
none_first top (b ∷ l) h =
    split (eqb b 48)
    (λ e.
    let z : digit 48 ≡ false = rw (eqb-true b 48 e) at h in
    absurd (false≢true (sym z)))
    (λ e. rw (e, h))

module _ (text : List ℕ) (at top first : ℕ) (f : first ≡ digit_in (drop at text)) where
  pub number_none : 10 ≤ first → none ≡ numeral top (drop at text)
  number_none e = none_first top (drop at text) (digit_none (drop at text) (omega (arith, f)))

  module _ (small : first < 10) where
    inside : at < length text
    inside = digit_inside text at (omega (arith, f))

    byte : digit (get_or text at 0) ≡ true
    byte = rw (drop-cons text at 0 inside) at (digit_first (drop at text) (omega (arith, f)))

    value : get_or text at 0 ≡ 48 + first
    value =
        let s = byte_back (get_or text at 0) byte in
        let v : first ≡ get_or text at 0 - 48 = rw (drop-cons text at 0 inside, byte) at f in
        omega (arith, s.0, v)

    pub at-inside : at + 1 ≤ length text
    at-inside = omega (arith, inside)

    -- a zero that no digit follows
    pub number-zero : (second : ℕ) → first ≡ 0 → second ≡ digit_in (drop (at + 1) text) → 10 ≤ second
        → found 0 (drop (at + 1) text) ≡ numeral top (drop at text)
    unfolding numeral
    number-zero second z e h =
        let n : at + 1 ≡ suc at = omega arith in
        let b : eqb (get_or text at 0) 48 ≡ true = eq-eqb (get_or text at 0) 48 (omega (arith, value)) in
        let o : starts_digit (drop (suc at) text) ≡ false = rw n at (digit_none (drop (at + 1) text) (omega (arith, e))) in
        rw (n, drop-cons text at 0 inside, b, o)

    -- a zero that leads
    pub number-led : (second : ℕ) → first ≡ 0 → second ≡ digit_in (drop (at + 1) text) → second < 10 → none ≡ numeral top (drop at text)
    unfolding numeral
    number-led second z e h =
        let n : at + 1 ≡ suc at = omega arith in
        let b : eqb (get_or text at 0) 48 ≡ true = eq-eqb (get_or text at 0) 48 (omega (arith, value)) in
        let o : starts_digit (drop (suc at) text) ≡ true = rw n at (digit_first (drop (at + 1) text) (omega (arith, e))) in
        rw (drop-cons text at 0 inside, b, o)

    -- any other digit
    pub number-long : 1 ≤ first → digits_from top 0 (drop at text) ≡ numeral top (drop at text)
    unfolding numeral
    number-long z =
        let b : eqb (get_or text at 0) 48 ≡ false = ne_eqb (get_or text at 0) 48 (λ q. absurd (omega (arith, value, q, z))) in
        rw (drop-cons text at 0 inside, b, byte)

-- ---- one answer

-- places in a text that have the same behind them are the same
same_place : (text : List ℕ) (m n : ℕ) → m ≤ length text → n ≤ length text → drop m text ≡ drop n text → m ≡ n
same_place text m n a b e = omega (arith, ap length e, length-drop m text, length-drop n text)

-- any two permitted answers coincide
pub read_once : (text : List ℕ) (at top : ℕ) (a b : Option Number) → Reads text at top a → Reads text at top b → a ≡ b
read_once text at top (Some x) (Some y) p q =
    let e : found x.value (drop x.next text) ≡ found y.value (drop y.next text) = p.number ∙ sym q.number in
    let v : x.value ≡ y.value = cc in
    let d : drop x.next text ≡ drop y.next text = cc in
    let n : x.next ≡ y.next = same_place text x.next y.next p.inside q.inside d in
    λ i. Some (record { value = v i; next = n i })
read_once text at top (Some x) None p q =
    let e : found x.value (drop x.next text) ≡ none = p.number ∙ sym q.number in
    absurd (let z : ◌≡◌ {A = ℕ} 0 1 = cc in omega arith)
read_once text at top None (Some y) p q =
    let e : none ≡ found y.value (drop y.next text) = p.number ∙ sym q.number in
    absurd (let z : ◌≡◌ {A = ℕ} 0 1 = cc in omega arith)
read_once text at top None None p q = refl
