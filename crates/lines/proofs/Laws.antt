-- Runs laid one after the other are a line, and a line tells its answer.
use mathlib.Core.Path.{◌≡◌, refl, ◌∙◌, ap}
use Prim.Native.Nat.{ℕ, ◌≤◌, ◌<◌}
use native.Mathlib.Omega.{arith}
use mathlib.Core.List.{List, [], ◌∷◌, ◌++◌}
use lib.ListN.{length, length-append}
use Rattle.pages.specs.Pages.{filled, put, write, Lies}
use Rattle.pages.proofs.Laws.{write_join, lies}
use Rattle.decimal.specs.Decimal.{decimal}
use Rattle.decimal.proofs.Laws.{at_most_twenty, digits_tell}
use Rattle.model.specs.Refusals.{Answer, fine, refused}
use Rattle.lines.specs.Lines.{least_line, accepted_line, refused_line, solved_line, judged_line}

-- a word, a number and a line feed
pub three_runs : (old new : List ℕ) (r cost : ℕ) (word : List ℕ) → length word ≤ 12 → length old ≡ 64 → cost < 18446744073709551616
    → filled r new ≡ put (write (write (filled 0 old) word) (decimal cost)) 10
    → Lies (word ++ (decimal cost ++ (10 ∷ []))) old r new
three_runs old new r cost word w o h e =
    let rest : List ℕ = decimal cost ++ (10 ∷ []) in
    let few : length (word ++ (decimal cost ++ (10 ∷ []))) ≤ length old
    = omega (arith, length-append word rest, length-append (decimal cost) (10 ∷ []), at_most_twenty cost h) in
    lies (word ++ rest) old r new few
    (e ∙ (write_join (write (filled 0 old) word) (decimal cost) (10 ∷ []) ∙ write_join (filled 0 old) word rest))

-- a word, a number, a word, a number and a line feed
pub five_runs : (old new : List ℕ) (r n p : ℕ) (word middle : List ℕ) → length word ≤ 12 → length middle ≤ 4 → length old ≡ 64
    → n < 18446744073709551616 → p < 18446744073709551616
    → filled r new ≡ put (write (write (write (write (filled 0 old) word) (decimal n)) middle) (decimal p)) 10
    → Lies (word ++ (decimal n ++ (middle ++ (decimal p ++ (10 ∷ []))))) old r new
five_runs old new r n p word middle w m o hn hp e =
    let last : List ℕ = decimal p ++ (10 ∷ []) in
    let rest : List ℕ = decimal n ++ (middle ++ (decimal p ++ (10 ∷ []))) in
    let few : length (word ++ (decimal n ++ (middle ++ (decimal p ++ (10 ∷ []))))) ≤ length old
    = omega (
      arith,
      length-append word rest,
      length-append (decimal n) (middle ++ last),
      length-append middle last,
      length-append (decimal p) (10 ∷ []),
      at_most_twenty n hn,
      at_most_twenty p hp,
    ) in
    lies (word ++ rest) old r new few
    (e
    ∙ (write_join (write (write (write (filled 0 old) word) (decimal n)) middle) (decimal p) (10 ∷ [])
    ∙ (write_join (write (write (filled 0 old) word) (decimal n)) middle last
    ∙ (write_join (write (filled 0 old) word) (decimal n) (middle ++ last)
    ∙ write_join (filled 0 old) word rest))))

-- ---- a line tells its answer

cost_tells : (c d : ℕ) → decimal c ++ (10 ∷ []) ≡ decimal d ++ (10 ∷ []) → c ≡ d
cost_tells c d e = (digits_tell c d (10 ∷ []) (10 ∷ []) refl refl e).0

refused_tells : (n p m q : ℕ) → refused_line n p ≡ refused_line m q → (n ≡ m) × (p ≡ q)
unfolding refused_line
refused_tells n p m q e =
    let l : decimal n ++ (32 ∷ 97 ∷ 116 ∷ 32 ∷ (decimal p ++ (10 ∷ []))) ≡ decimal m ++ (32 ∷ 97 ∷ 116 ∷ 32 ∷ (decimal q ++ (10 ∷ []))) = cc in
    let k = digits_tell n m _ _ refl refl l in
    let r : decimal p ++ (10 ∷ []) ≡ decimal q ++ (10 ∷ []) = cc k.1 in
    (k.0, cost_tells p q r)

same_refusal : (n p m q : ℕ) → (n ≡ m) × (p ≡ q) → ◌≡◌ {A = Answer ℕ} (refused n p) (refused m q)
same_refusal n p m q (a, b) = rw (a, b)

-- what `least` prints tells what solve answered
pub solved_line_tells : (a b : Answer ℕ) → solved_line a ≡ solved_line b → a ≡ b
unfolding least_line refused_line
solved_line_tells (fine c) (fine d) e =
    let l : decimal c ++ (10 ∷ []) ≡ decimal d ++ (10 ∷ []) = cc in
    ap fine (cost_tells c d l)
solved_line_tells (fine c) (refused m q) e = let z : ◌≡◌ {A = ℕ} 108 114 = cc in absurd (omega arith)
solved_line_tells (refused n p) (fine d) e = let z : ◌≡◌ {A = ℕ} 114 108 = cc in absurd (omega arith)
solved_line_tells (refused n p) (refused m q) e = same_refusal n p m q (refused_tells n p m q e)

-- what `judge` prints tells what the judge answered
pub judged_line_tells : (a b : Answer ℕ) → judged_line a ≡ judged_line b → a ≡ b
unfolding accepted_line refused_line
judged_line_tells (fine c) (fine d) e =
    let l : decimal c ++ (10 ∷ []) ≡ decimal d ++ (10 ∷ []) = cc in
    ap fine (cost_tells c d l)
judged_line_tells (fine c) (refused m q) e = let z : ◌≡◌ {A = ℕ} 97 114 = cc in absurd (omega arith)
judged_line_tells (refused n p) (fine d) e = let z : ◌≡◌ {A = ℕ} 114 97 = cc in absurd (omega arith)
judged_line_tells (refused n p) (refused m q) e = same_refusal n p m q (refused_tells n p m q e)
