-- How many bytes a text can come to, whatever its numbers are: of a text that can't come to more than a page has room for nothing is
-- left out.
use mathlib.Core.Path.{◌≡◌, refl, sym, ◌∙◌}
use Prim.Native.Nat.{ℕ, zero, suc, ◌+◌, ◌-◌, ◌≤◌, ◌<◌, max}
use native.Mathlib.Omega.{arith}
use mathlib.Core.Bool.{Bool, true, false, cond, ◌&&◌, ◌||◌}
use mathlib.Core.List.{List, [], ◌∷◌, ◌++◌}
use lib.ListN.{length, get_or, replicate, length-append, length-replicate}
use lib.Dec.{eqb, ltb, leb}
use borrow.Author.Tests.{eqb-true, eqb-false, eq-eqb, ne_eqb, ltb-true, leb-true}
use Rattle.decimal.specs.Decimal.{decimal}
use Rattle.decimal.proofs.Laws.{at_most_twenty}
use Rattle.pages.specs.Pages.{Lies}
use Rattle.pages.proofs.Laws.{split, cut_lies}
use Rattle.sentences.specs.Spelled.{State, Sign, next_word, shown_of, sign_of, spelled_from, start, spelled}
use Rattle.sentences.specs.Signed.{Laid}
use Rattle.sentences.proofs.Signs.{sign_choice, sign-bar, sign-end, sign-hidden, sign-shown}
use Rattle.sentences.proofs.Signs.{shown-run, shown-column, shown-zero-run, shown-zeros, shown-plain}

-- how much room a text has taken so far: what stands before the words that are read, the longest word that is over, and the word that is
-- read
record Room : Type 0 where
  base : ℕ
  best : ℕ
  word : ℕ

-- at most so many bytes stand there
abbrev most : Room → ℕ
most r = r.base + max r.best r.word

-- a byte takes one place, and the last sign of a run twenty more, as many as a number has digits
abbrev room : (b next : ℕ) → ℕ
room b next = cond ((eqb b 64 || eqb b 36) && (cond (eqb b next) false true)) 21 1

-- one byte of a text more
abbrev taking : Room → (b next : ℕ) → Room
taking r b next =
    cond (eqb b 91) (record { base = most r; best = 0; word = 0 })
    (cond (eqb b 124) (record { base = r.base; best = max r.best r.word; word = 0 })
    (cond (eqb b 93) (record { base = 0; best = 0; word = most r })
    (record { base = r.base; best = r.best; word = r.word + room b next })))

abbrev widest_from : Room → List ℕ → ℕ
widest_from r [] = most r
widest_from r (b ∷ text) = widest_from (taking r b (get_or text 0 0)) text

-- the most bytes that a text can come to
abbrev widest : List ℕ → ℕ
widest text = widest_from (record { base = 0; best = 0; word = 0 }) text

-- a text that fits a page, and is none of 2^64 bytes
abbrev pub fits : List ℕ → Bool
fits text = leb (widest text) 256 && ltb (length text) 65536

-- so many bytes stand there: the word that is read is shown, or the chosen one is still to come, or it is over
data Stands (s : State) (r : Room) (bytes rest : ℕ) : Type 0 where
  shows : s.hidden ≡ 0 → bytes + s.run ≤ r.base + r.word → Stands s r bytes rest
  waits : 0 < s.hidden → bytes + s.run ≤ r.base → Stands s r bytes rest
  passed : rest < s.hidden → bytes + s.run ≤ r.base + r.best → Stands s r bytes rest

-- in each case no more than the room that is taken
stands_most : {s : State} {r : Room} {bytes rest : ℕ} → Stands s r bytes rest → bytes + s.run ≤ most r
stands_most (shows h l) = omega arith
stands_most (waits h l) = omega arith
stands_most (passed h l) = omega arith

-- after a choice
chosen : (s : State) (r : Room) (bytes rest : ℕ) → bytes + s.run ≤ r.base → Stands s r bytes rest
chosen s r bytes rest l =
    split (eqb s.hidden 0)
    (λ e. shows (eqb-true s.hidden 0 e) (omega arith))
    (λ e. waits (positive s.hidden (eqb-false s.hidden 0 e)) l)
  where
    positive : (n : ℕ) → (n ≡ 0 → ⊥) → 0 < n
    positive zero h = absurd (h refl)
    positive (suc n) h = omega arith

-- a number and what stands in front of it are at most twenty bytes longer than its run
led_few : (run k lead n : ℕ) → n < 18446744073709551616 → k ≤ run + 1 - length (decimal n)
    → length (replicate k lead ++ decimal n) ≤ run + 21
led_few run k lead n h l =
    omega (arith, length-append (replicate k lead) (decimal n), length-replicate {A = ℕ} k lead, at_most_twenty n h)

module _ (s : State) (r : Room) (b next n bytes rest : ℕ) (small : n < 18446744073709551616) where
  -- a byte that is shown
  shown_step : s.hidden ≡ 0 → bytes + s.run ≤ r.base + r.word
      → Stands (shown_of s b next n).after (record { base = r.base; best = r.best; word = r.word + room b next })
      (bytes + length (shown_of s b next n).bytes) rest
  shown_step z l =
      split (eqb b 64)
      (λ e.
      let b64 = eqb-true b 64 e in
      split (eqb next 64)
      (λ f.
      let q : eqb b next ≡ true = eq-eqb b next (b64 ∙ sym (eqb-true next 64 f)) in
      rw (e, q, shown-run s b next n b64 (eqb-true next 64 f)) (shows z (omega arith)))
      (λ f.
      let q : eqb b next ≡ false = ne_eqb b next (λ d. eqb-false next 64 f (sym d ∙ b64)) in
      let few = led_few s.run (s.run + 1 - (length (decimal n) + s.over)) 32 n small (omega arith) in
      rw (e, q, shown-column s b next n b64 (eqb-false next 64 f)) (shows refl (omega arith))))
      (λ e.
      let n64 = eqb-false b 64 e in
      split (eqb b 36)
      (λ f.
      let b36 = eqb-true b 36 f in
      split (eqb next 36)
      (λ g.
      let q : eqb b next ≡ true = eq-eqb b next (b36 ∙ sym (eqb-true next 36 g)) in
      rw (e, f, q, shown-zero-run s b next n n64 b36 (eqb-true next 36 g)) (shows z (omega arith)))
      (λ g.
      let q : eqb b next ≡ false = ne_eqb b next (λ d. eqb-false next 36 g (sym d ∙ b36)) in
      let few = led_few s.run (s.run + 1 - length (decimal n)) 48 n small (omega arith) in
      rw (e, f, q, shown-zeros s b next n n64 b36 (eqb-false next 36 g)) (shows refl (omega arith))))
      (λ f. rw (e, f, shown-plain s b next n n64 (eqb-false b 36 f)) (shows z (omega arith))))

  -- a bar
  bar_step : rest < 18446744073709551615 → Stands s r bytes (suc rest)
      → Stands (record { taken = s.taken; run = s.run; over = s.over; hidden = next_word s.hidden })
      (record { base = r.base; best = max r.best r.word; word = 0 }) (bytes + 0) rest
  bar_step few (shows h l) = rw (eq-eqb s.hidden 0 h) (passed few (omega arith))
  bar_step few (waits h l) =
      rw (ne_eqb s.hidden 0 (λ e. absurd (omega arith)))
      (chosen (record { taken = s.taken; run = s.run; over = s.over; hidden = s.hidden - 1 })
      (record { base = r.base; best = max r.best r.word; word = 0 }) (bytes + 0) rest (omega arith))
  bar_step few (passed h l) =
      rw (ne_eqb s.hidden 0 (λ e. absurd (omega arith))) (passed (omega arith) (omega arith))

  -- any byte
  step : rest < 18446744073709551615 → Stands s r bytes (suc rest)
      → Stands (sign_of s b next n).after (taking r b next) (bytes + length (sign_of s b next n).bytes) rest
  step few h =
      split (eqb b 91)
      (λ e. rw (e, sign_choice s b next n (eqb-true b 91 e)) (chosen _ _ (bytes + 0) rest (omega (arith, stands_most h))))
      (λ e1.
      let n1 = eqb-false b 91 e1 in
      split (eqb b 124)
      (λ e. rw (e1, e, sign-bar s b next n n1 (eqb-true b 124 e)) (bar_step few h))
      (λ e2.
      let n2 = eqb-false b 124 e2 in
      split (eqb b 93)
      (λ e. rw (e1, e2, e, sign-end s b next n n1 n2 (eqb-true b 93 e)) (shows refl (omega (arith, stands_most h))))
      (λ e3. rw (e1, e2, e3) (on n1 n2 (eqb-false b 93 e3) h))))
    where
      on : (b ≡ 91 → ⊥) → (b ≡ 124 → ⊥) → (b ≡ 93 → ⊥) → Stands s r bytes (suc rest)
          → Stands (sign_of s b next n).after (record { base = r.base; best = r.best; word = r.word + room b next })
          (bytes + length (sign_of s b next n).bytes) rest
      on n1 n2 n3 (shows z l) = rw (sign-shown s b next n n1 n2 n3 (omega arith)) (shown_step z l)
      on n1 n2 n3 (waits z l) = rw (sign-hidden s b next n n1 n2 n3 z) (waits z (omega arith))
      on n1 n2 n3 (passed z l) = rw (sign-hidden s b next n n1 n2 n3 (omega arith)) (passed (omega arith) (omega arith))

-- from here on
widest_from_lem : (s : State) (r : Room) (numbers text : List ℕ) (bytes : ℕ) → ((i : ℕ) → get_or numbers i 0 < 18446744073709551616)
    → length text < 18446744073709551615 → Stands s r bytes (length text) → bytes + length (spelled_from s numbers text) ≤ widest_from r text
widest_from_lem s r numbers [] bytes small few h = omega (arith, stands_most h)
widest_from_lem s r numbers (b ∷ text) bytes small few h =
    let next : ℕ = get_or text 0 0 in
    let n : ℕ = get_or numbers s.taken 0 in
    let sign : Sign = sign_of s b (get_or text 0 0) (get_or numbers s.taken 0) in
    let k = step s r b next n bytes (length text) (small s.taken) (omega arith) h in
    let more = widest_from_lem sign.after (taking r b next) numbers text (bytes + length sign.bytes) small (omega arith) k in
    omega (arith, more, length-append sign.bytes (spelled_from sign.after numbers text))

-- a text that fits a page comes to no more than the page has room for
text_fits : (text numbers : List ℕ) → fits text ≡ true → ((i : ℕ) → get_or numbers i 0 < 18446744073709551616)
    → length (spelled text numbers) ≤ 256
unfolding spelled
text_fits text numbers f small =
    let r : Room = record { base = 0; best = 0; word = 0 } in
    both (leb (widest text) 256) (ltb (length text) 65536) f (λ a b.
    let few = ltb-true (length text) 65536 b in
    omega (arith, leb-true (widest text) 256 a, widest_from_lem start r numbers text 0 small (omega arith) (shows refl (omega arith))))
  where
    both : (a b : Bool) → (a && b) ≡ true → (a ≡ true → b ≡ true → length (spelled_from start numbers text) ≤ 256)
        → length (spelled_from start numbers text) ≤ 256
    both true b e k = k refl e
    both false b e k = absurd (let z : ◌≡◌ {A = ℕ} 0 1 = cc in omega arith)

-- so all of it is laid
pub laid_whole : {text numbers old : List ℕ} {r : ℕ} {new : List ℕ} → fits text ≡ true → Laid text numbers old r new
    → Lies (spelled text numbers) old r new
laid_whole {text} {numbers} {old} f l = cut_lies (omega (arith, text_fits text numbers f l.small, l.room)) l.cut
