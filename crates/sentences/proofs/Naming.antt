-- Every refusal's sentence begins `refused N at P: `.
use mathlib.Core.Path.{◌≡◌, refl, sym, ◌∙◌, ap, subst}
use Prim.Native.Nat.{ℕ, ◌+◌, ◌-◌, min}
use native.Mathlib.Omega.{arith}
use mathlib.Core.Bool.{Bool, true, false, cond}
use mathlib.Core.List.{List, [], ◌∷◌, ◌++◌, append_assoc}
use lib.ListN.{length, get_or, drop, replicate}
use lib.Dec.{eqb}
use borrow.Author.Tests.{eqb-true}
use Rattle.decimal.specs.Decimal.{decimal}
use Rattle.decimal.proofs.Laws.{some_digit}
use Rattle.pages.specs.Letters.{letters}
use Rattle.sentences.specs.Spelled.{State, start, column_of, shown_of, sign_of, spelled_from, spelled}
use Rattle.sentences.specs.Sentences.{sentence, crowded_page, refusal_page}

-- `refused N at P: `
abbrev pub named : (number place : ℕ) → List ℕ
named number place = letters "refused " ++ (decimal number ++ (letters " at " ++ (decimal place ++ letters ": ")))

-- a page that begins with these bytes
abbrev pub Begins : (bytes page : List ℕ) → Type 0
Begins bytes page = (rest : List ℕ) × (page ≡ bytes ++ rest)

-- between signs: no word is left out, and no run has begun
abbrev at : (taken over : ℕ) → State
at taken over = record { taken = taken; run = 0; over = over; hidden = 0 }

-- how many columns number n takes more than one, added to those before
abbrev more : (n over : ℕ) → ℕ
more n over = min (length (decimal n) + over - (0 + 1)) 256

sign_is : (taken over b n : ℕ) → eqb b 64 ≡ false → sign_of (at taken over) 64 b n ≡ column_of (at taken over) n
unfolding sign_of shown_of
sign_is taken over b n e = rw e

-- one @ alone has no spaces before its number
no_space : (x over : ℕ) → 1 - (length (decimal x) + over) ≡ 0
no_space x over = omega (arith, some_digit x)

-- one @ alone is the digits of its number
alone : (taken over b : ℕ) (ns rest : List ℕ) → eqb b 64 ≡ false
    → spelled_from (at taken over) ns (64 ∷ b ∷ rest)
    ≡ decimal (get_or ns taken 0) ++ spelled_from (at (taken + 1) (more (get_or ns taken 0) over)) ns (b ∷ rest)
alone taken over b ns rest e =
    let n : ℕ = get_or ns taken 0 in
    ap (λ q. q.bytes ++ spelled_from q.after ns (b ∷ rest)) (sign_is taken over b (get_or ns taken 0) e)
    ∙ ap (λ k. (replicate k 32 ++ decimal n) ++ spelled_from (at (taken + 1) (more n over)) ns (b ∷ rest)) (no_space n over)

-- a text that begins `refused @ at @: `
head_names : (n p : ℕ) (ns rest : List ℕ) → Begins (named n p) (spelled_from start (n ∷ p ∷ ns) (letters "refused @ at @: " ++ rest))
unfolding sign_of shown_of
head_names n p ns rest = (
  spelled_from (at 2 (more p (more n 0))) (n ∷ p ∷ ns) rest,
  (plain-one
      ∙ (ap (λ l. letters "refused " ++ l) (alone 0 0 32 (n ∷ p ∷ ns) (letters "at @: " ++ rest) refl)
      ∙ (ap (λ l. letters "refused " ++ (decimal n ++ l)) plain-two
      ∙ (ap (λ l. letters "refused " ++ (decimal n ++ (letters " at " ++ l))) (alone 1 (more n 0) 58 (n ∷ p ∷ ns) (letters " " ++ rest) refl)
      ∙ (ap (λ l. letters "refused " ++ (decimal n ++ (letters " at " ++ (decimal p ++ l)))) plain-three
      ∙ joined (spelled_from (at 2 (more p (more n 0))) (n ∷ p ∷ ns) rest)))))),
)
  where
    plain-one : spelled_from start (n ∷ p ∷ ns) (letters "refused @ at @: " ++ rest)
        ≡ letters "refused " ++ spelled_from (at 0 0) (n ∷ p ∷ ns) (letters "@ at @: " ++ rest)
    plain-one = refl

    plain-two : spelled_from (at 1 (more n 0)) (n ∷ p ∷ ns) (letters " at @: " ++ rest)
        ≡ letters " at " ++ spelled_from (at 1 (more n 0)) (n ∷ p ∷ ns) (letters "@: " ++ rest)
    plain-two = refl

    plain-three : spelled_from (at 2 (more p (more n 0))) (n ∷ p ∷ ns) (letters ": " ++ rest)
        ≡ letters ": " ++ spelled_from (at 2 (more p (more n 0))) (n ∷ p ∷ ns) rest
    plain-three = refl

    joined : (l : List ℕ) → letters "refused " ++ (decimal n ++ (letters " at " ++ (decimal p ++ (letters ": " ++ l)))) ≡ named n p ++ l
    joined l =
        ap (λ x. letters "refused " ++ x)
        (ap (λ x. decimal n ++ (letters " at " ++ x)) (sym (append_assoc (decimal p) (letters ": ") l))
        ∙ sym (append_assoc (decimal n) (letters " at " ++ (decimal p ++ letters ": ")) l))

fifteen : decimal 15 ≡ letters "15"
unfolding decimal
fifteen = refl

-- a text that begins `refused 15 at @: `
head_fifteen : (p : ℕ) (ns rest : List ℕ) → Begins (named 15 p) (spelled_from start (p ∷ ns) (letters "refused 15 at @: " ++ rest))
unfolding sign_of shown_of
head_fifteen p ns rest = (
  spelled_from (at 1 (more p 0)) (p ∷ ns) rest,
  (plain-one
      ∙ (ap (λ l. letters "refused 15 at " ++ l) (alone 0 0 58 (p ∷ ns) (letters " " ++ rest) refl)
      ∙ (ap (λ l. letters "refused 15 at " ++ (decimal p ++ l)) plain-two
      ∙ joined (spelled_from (at 1 (more p 0)) (p ∷ ns) rest)))),
)
  where
    plain-one : spelled_from start (p ∷ ns) (letters "refused 15 at @: " ++ rest)
        ≡ letters "refused 15 at " ++ spelled_from (at 0 0) (p ∷ ns) (letters "@: " ++ rest)
    plain-one = refl

    plain-two : spelled_from (at 1 (more p 0)) (p ∷ ns) (letters ": " ++ rest) ≡ letters ": " ++ spelled_from (at 1 (more p 0)) (p ∷ ns) rest
    plain-two = refl

    joined : (l : List ℕ) → letters "refused 15 at " ++ (decimal p ++ (letters ": " ++ l)) ≡ named 15 p ++ l
    joined l =
        ap (λ x. letters "refused 15 at " ++ x) (sym (append_assoc (decimal p) (letters ": ") l))
        ∙ ap (λ d. letters "refused " ++ ((d ++ (letters " at " ++ (decimal p ++ letters ": "))) ++ l)) (sym fifteen)

crowded_names : (place slots : ℕ) → Begins (named 15 place) (crowded_page place slots)
unfolding spelled
crowded_names place slots = by (eqb slots 1)
  where
    by : (t : Bool) → Begins (named 15 place) (cond t
        (spelled (letters "refused 15 at @: more than 1 item in gap @\n") (place ∷ place ∷ []))
        (spelled (letters "refused 15 at @: more than @ items in gap @\n") (place ∷ slots ∷ place ∷ [])))
    by true = head_fifteen place (place ∷ []) (letters "more than 1 item in gap @\n")
    by false = head_fifteen place (slots ∷ place ∷ []) (letters "more than @ items in gap @\n")

-- the sentence of each refusal begins with its number and place
pub sentence_names : (number place slots : ℕ) → Begins (named number place) (refusal_page number place slots)
unfolding refusal_page spelled
sentence_names number place slots = by (eqb number 15) (eqb-true number 15)
  where
    by : (t : Bool) → (t ≡ true → number ≡ 15)
        → Begins (named number place) (cond t (crowded_page place slots) (spelled sentence (number ∷ place ∷ number ∷ place ∷ [])))
    by true h = subst (λ (k : ℕ). Begins (named k place) (crowded_page place slots)) (sym (h refl)) (crowded_names place slots)
    by false h = head_names number place (number ∷ place ∷ []) (drop 16 sentence)

-- used on cases
third : refusal_page 3 0 1 ≡ letters "refused 3 at 0: the trace has more than 64 slots\n"
unfolding refusal_page spelled sign_of shown_of decimal
third = refl

fourteenth : refusal_page 14 1024 1 ≡ letters "refused 14 at 1024: flag 1 at request 1024, its item's last, or a write of an item not held\n"
unfolding refusal_page spelled sign_of shown_of decimal
fourteenth = refl

fifteenth : refusal_page 15 2 1 ≡ letters "refused 15 at 2: more than 1 item in gap 2\n"
unfolding refusal_page spelled sign_of shown_of decimal
fifteenth = refl
