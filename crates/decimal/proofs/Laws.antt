-- Digits: a number that is written is read back, what is read as a number is its one spelling, and no spelling begins with a zero
-- but that of 0.
use mathlib.Core.Path.{◌≡◌, refl, sym, ◌∙◌, ap}
use Prim.Native.Nat.{ℕ, zero, suc, ◌+◌, ◌*◌, ◌-◌, ◌/◌, ◌%◌, ◌^◌, ◌≤◌, ◌<◌}
use native.Mathlib.Nat.{pow-succ', pow-zero}
use native.Mathlib.Omega.{arith}
use mathlib.Core.Bool.{true, false, false≢true}
use mathlib.Core.List.{List, [], ◌∷◌, ◌++◌}
use lib.ListN.{length, get_or}
use lib.Dec.{eqb, ltb}
use borrow.Author.Tests.{lt-ltb, le-ltb, ltb-true, ltb-false, eqb-true, ne_eqb, eqb-false}
use Rattle.pages.proofs.Laws.{split}
use Rattle.decimal.specs.Decimal.{spell_by, decimal, digit, starts_digit, found, none, digits_from, numeral}

-- ---- spelling

-- what stands behind the digits is carried along
pub spell_append : (k x : ℕ) (r q : List ℕ) → spell_by k x r ++ q ≡ spell_by k x (r ++ q)
spell_append zero x r q = refl
spell_append (suc k) x r q =
    split (ltb x 10)
    (λ e. rw e)
    (λ e. rw e (spell_append k (x / 10) ((48 + x % 10) ∷ r) q))

-- more room than x asks for changes nothing
spell_fuel : (j k x : ℕ) (r : List ℕ) → x ≤ j → x ≤ k → spell_by j x r ≡ spell_by k x r
spell_fuel zero zero x r a b = refl
spell_fuel zero (suc k) x r a b = rw (lt-ltb x 10 (omega arith))
spell_fuel (suc j) zero x r a b = rw (lt-ltb x 10 (omega arith))
spell_fuel (suc j) (suc k) x r a b =
    split (ltb x 10)
    (λ e. rw e)
    (λ e.
    let big = ltb-false x 10 e in
    rw e (spell_fuel j k (x / 10) ((48 + x % 10) ∷ r) (omega arith) (omega arith)))

-- ten times a number and a digit more: the digits of the number, and that digit
pub spell_more : (x d : ℕ) (r : List ℕ) → 1 ≤ x → d < 10 → spell_by (10 * x + d) (10 * x + d) r ≡ spell_by x x ((48 + d) ∷ r)
spell_more x d r p s = more (10 * x + d) refl
  where
    more : (y : ℕ) → y ≡ 10 * x + d → spell_by y y r ≡ spell_by x x ((48 + d) ∷ r)
    more zero e = absurd (omega arith)
    more (suc y) e =
        let big : ltb (suc y) 10 ≡ false = le-ltb (suc y) 10 (omega arith) in
        let high : suc y / 10 ≡ x = omega arith in
        let low : suc y % 10 ≡ d = omega arith in
        rw (big, high, low) (spell_fuel y x x ((48 + d) ∷ r) (omega arith) (omega arith))

-- a number of one digit
pub spell_one : (d : ℕ) (r : List ℕ) → d < 10 → spell_by d d r ≡ (48 + d) ∷ r
spell_one zero r h = refl
spell_one (suc d) r h = rw (lt-ltb (suc d) 10 h)

-- a number below 10 ^ (n + 1) has at most n + 1 digits
spell_few : (k x n : ℕ) (r : List ℕ) → x < 10 ^ suc n → length (spell_by k x r) ≤ suc n + length r
spell_few zero x n r h = omega arith
spell_few (suc k) x zero r h = rw (lt-ltb x 10 (omega (arith, pow-succ' 10 0, pow-zero 10))) (omega arith)
spell_few (suc k) x (suc n) r h =
    split (ltb x 10)
    (λ e. rw e (omega arith))
    (λ e. rw e (omega (arith, spell_few k (x / 10) n ((48 + x % 10) ∷ r) (omega (arith, pow-succ' 10 (suc n))))))

-- a number of 64 bits has at most twenty digits
pub at_most_twenty : (x : ℕ) → x < 18446744073709551616 → length (decimal x) ≤ 20
unfolding decimal
at_most_twenty x h = omega (arith, spell_few x x 19 [] (omega arith))

-- and every number has one
pub some_digit : (x : ℕ) → 1 ≤ length (decimal x)
unfolding decimal
some_digit x = omega (arith, some x x [])
  where
    some : (k x : ℕ) (r : List ℕ) → 1 + length r ≤ length (spell_by k x r)
    some zero x r = omega arith
    some (suc k) x r =
        split (ltb x 10)
        (λ e. rw e (omega arith))
        (λ e. rw e (omega (arith, some k (x / 10) ((48 + x % 10) ∷ r))))

-- ---- written, then read

-- a digit's byte
digit_is : (d : ℕ) → d < 10 → digit (48 + d) ≡ true
digit_is d h = rw (lt-ltb 47 (48 + d) (omega arith), lt-ltb (48 + d) 58 (omega arith))

-- one digit more is read
one_more : (top x d : ℕ) (l : List ℕ) → d < 10 → 10 * x + d ≤ top → digits_from top x ((48 + d) ∷ l) ≡ digits_from top (10 * x + d) l
one_more top x d l s h =
    let e : 48 + d - 48 ≡ d = omega arith in
    rw (digit_is d s, e, le-ltb top (10 * x + d) h)

-- the digits of a number from 1 on are read as it
digits_read : (top k x : ℕ) (l : List ℕ) → 1 ≤ x → x ≤ k → x ≤ top → digits_from top 0 (spell_by k x l) ≡ digits_from top x l
digits_read top zero x l p f h = absurd (omega arith)
digits_read top (suc k) x l p f h =
    split (ltb x 10)
    (λ e.
    let s = ltb-true x 10 e in
    let z : 10 * 0 + x ≡ x = omega arith in
    rw e (one_more top 0 x l s (omega arith) ∙ rw z))
    (λ e.
    let s = ltb-false x 10 e in
    let z : 10 * (x / 10) + x % 10 ≡ x = omega arith in
    rw e
    (digits_read top k (x / 10) ((48 + x % 10) ∷ l) (omega arith) (omega arith) (omega arith)
    ∙ (one_more top (x / 10) (x % 10) l (omega arith) (omega arith) ∙ rw z)))

-- the first of them is a digit from 1 on
record First (l : List ℕ) : Type 0 where
  byte : ℕ
  rest : List ℕ
  is : l ≡ byte ∷ rest
  low : 48 < byte
  high : byte < 58

spell_first : (k x : ℕ) (l : List ℕ) → 1 ≤ x → x ≤ k → First (spell_by k x l)
spell_first zero x l p f = absurd (omega arith)
spell_first (suc k) x l p f =
    split (ltb x 10)
    (λ e.
    let s = ltb-true x 10 e in
    rw e (record { byte = 48 + x; rest = l; is = refl; low = omega arith; high = omega arith }))
    (λ e.
    let s = ltb-false x 10 e in
    rw e (spell_first k (x / 10) ((48 + x % 10) ∷ l) (omega arith) (omega arith)))

first_long : (top : ℕ) (l : List ℕ) → First l → numeral top l ≡ digits_from top 0 l
unfolding numeral
first_long top l f =
    rw (
      f.is,
      ne_eqb f.byte 48 (λ q. absurd (omega (arith, f.low))),
      lt-ltb 47 f.byte (omega (arith, f.low)),
      lt-ltb f.byte 58 f.high,
    )

-- where no digit follows, the number is over
pub over : (top x : ℕ) (q : List ℕ) → starts_digit q ≡ false → digits_from top x q ≡ found x q
over top x [] h = refl
over top x (b ∷ q) h = rw h

-- a number written in digits is read back, whatever follows that is no digit
pub read_back : (top x : ℕ) (q : List ℕ) → x ≤ top → starts_digit q ≡ false → numeral top (decimal x ++ q) ≡ found x q
unfolding decimal numeral
read_back top zero q h s = rw s
read_back top (suc x) q h s =
    let e : spell_by (suc x) (suc x) [] ++ q ≡ spell_by (suc x) (suc x) q = spell_append (suc x) (suc x) [] q in
    rw e
    (first_long top (spell_by (suc x) (suc x) q) (spell_first (suc x) (suc x) q (omega arith) (omega arith))
    ∙ (digits_read top (suc x) (suc x) q (omega arith) (omega arith) h
    ∙ over top (suc x) q s))

-- no number from 1 on begins with a zero
pub no_leading_zero : (x : ℕ) → 1 ≤ x → get_or (decimal x) 0 0 ≡ 48 → ⊥
unfolding decimal
no_leading_zero x p e =
    let f = spell_first x x [] p (omega arith) in
    let b : get_or (spell_by x x []) 0 0 ≡ f.byte = ap (λ l. get_or l 0 0) f.is in
    omega (arith, f.low, sym b ∙ e)

-- digits, and what follows them that is none, tell the number and what follows it
pub digits_tell : (x y : ℕ) (p q : List ℕ) → starts_digit p ≡ false → starts_digit q ≡ false → decimal x ++ p ≡ decimal y ++ q
    → (x ≡ y) × (p ≡ q)
digits_tell x y p q a b e =
    let h : found x p ≡ found y q
    = sym (read_back (x + y) x p (omega arith) a) ∙ (ap (numeral (x + y)) e ∙ read_back (x + y) y q (omega arith) b) in
    let v : x ≡ y = cc in
    let r : p ≡ q = cc in
    (v, r)

-- ---- read, then written

-- what was read: the digits of the number, and what follows
pub record Stood (top : ℕ) (l : List ℕ) (x : ℕ) (q : List ℕ) : Type 0 where
  pub there : l ≡ decimal x ++ q
  pub small : x ≤ top
  pub ends : starts_digit q ≡ false

-- a digit's byte lies between those of 0 and 9
pub byte_back : (b : ℕ) → digit b ≡ true → (48 ≤ b) × (b < 58)
byte_back b h =
    split (ltb 47 b)
    (λ e. (omega (arith, ltb-true 47 b e), ltb-true b 58 (rw e at h)))
    (λ e. absurd (false≢true (rw e at h)))

no_number : (v : ℕ) (q : List ℕ) → none ≡ found v q → ⊥
no_number v q h = let z : ◌≡◌ {A = ℕ} 0 1 = cc in absurd (omega arith)

-- what x and the digits after it were read as
record Went (top x : ℕ) (l : List ℕ) (v : ℕ) (q : List ℕ) : Type 0 where
  there : spell_by x x l ≡ spell_by v v q
  small : v ≤ top
  ends : starts_digit q ≡ false

read_went : (top x : ℕ) (l : List ℕ) (v : ℕ) (q : List ℕ) → 1 ≤ x → x ≤ top → digits_from top x l ≡ found v q → Went top x l v q
read_went top x [] v q p h e =
    let a : x ≡ v = cc in
    let b : [] ≡ q = cc in
    record { there = rw (a, b); small = omega arith; ends = rw (← b) }
read_went top x (b ∷ l) v q p h e =
    split (digit b)
    (λ d.
    let s = byte_back b d in
    split (ltb top (10 * x + (b - 48)))
    (λ c.
    let e2 : none ≡ found v q = rw (d, c) at e in
    absurd (no_number v q e2))
    (λ c.
    let e2 : digits_from top (10 * x + (b - 48)) l ≡ found v q = rw (d, c) at e in
    let w = read_went top (10 * x + (b - 48)) l v q (omega arith) (ltb-false top (10 * x + (b - 48)) c) e2 in
    let back : 48 + (b - 48) ≡ b = omega arith in
    let m : spell_by (10 * x + (b - 48)) (10 * x + (b - 48)) l ≡ spell_by x x (b ∷ l)
    = rw back at (spell_more x (b - 48) l p (omega arith)) in
    record { there = sym m ∙ w.there; small = w.small; ends = w.ends }))
    (λ d.
    let e2 : found x (b ∷ l) ≡ found v q = rw d at e in
    let a : x ≡ v = cc in
    let k : b ∷ l ≡ q = cc in
    record { there = rw (a, k); small = omega arith; ends = rw (← k) d })

-- the number of the digits that begin with b, from 1 on
led_by : (top b : ℕ) (l : List ℕ) (x : ℕ) (q : List ℕ) → 48 < b → b < 58 → b - 48 ≤ top → digits_from top (b - 48) l ≡ found x q
    → Stood top (b ∷ l) x q
unfolding decimal
led_by top b l x q low high t h =
    let w = read_went top (b - 48) l x q (omega arith) t h in
    let back : 48 + (b - 48) ≡ b = omega arith in
    let first : spell_by (b - 48) (b - 48) l ≡ b ∷ l = rw back at (spell_one (b - 48) l (omega arith)) in
    record { there = sym first ∙ (w.there ∙ sym (spell_append x x [] q)); small = w.small; ends = w.ends }

above : (b : ℕ) → digit b ≡ true → (b ≡ 48 → ⊥) → 48 < b
above b d n =
    split (ltb 48 b) (λ e. ltb-true 48 b e) (λ e. absurd (n (omega (arith, ltb-false 48 b e, (byte_back b d).0))))

-- what is read as a number is its one spelling
pub one_spelling : (top : ℕ) (l : List ℕ) (x : ℕ) (q : List ℕ) → numeral top l ≡ found x q → Stood top l x q
unfolding decimal numeral
one_spelling top [] x q h = absurd (no_number x q h)
one_spelling top (b ∷ l) x q h =
    split (eqb b 48)
    (λ z.
    split (starts_digit l)
    (λ d.
    let h2 : none ≡ found x q = rw (z, d) at h in
    absurd (no_number x q h2))
    (λ d.
    let h2 : found 0 l ≡ found x q = rw (z, d) at h in
    let a : 0 ≡ x = cc in
    let k : l ≡ q = cc in
    let c : b ≡ 48 = eqb-true b 48 z in
    record { there = rw (← a, ← k, c); small = omega arith; ends = rw (← k) d }))
    (λ z.
    split (digit b)
    (λ d.
    let one : 10 * 0 + (b - 48) ≡ b - 48 = omega arith in
    split (ltb top (b - 48))
    (λ c.
    let h2 : none ≡ found x q = rw (z, d, one, c) at h in
    absurd (no_number x q h2))
    (λ c.
    let h2 : digits_from top (b - 48) l ≡ found x q = rw (z, d, one, c) at h in
    led_by top b l x q (above b d (eqb-false b 48 z)) (byte_back b d).1 (ltb-false top (b - 48) c) h2))
    (λ d.
    let h2 : none ≡ found x q = rw (z, d) at h in
    absurd (no_number x q h2)))

-- used once
example : decimal 1024 ≡ 49 ∷ 48 ∷ 50 ∷ 52 ∷ []
unfolding decimal
example = refl
