-- Each sign by its byte, and what a sign adds to the counts.
use mathlib.Core.Path.{◌≡◌, ◌∙◌, ap}
use Prim.Native.Nat.{ℕ, ◌+◌, ◌-◌, ◌≤◌, ◌<◌}
use native.Mathlib.Nat.{min-le_right}
use native.Mathlib.Omega.{arith}
use mathlib.Core.List.{[], ◌∷◌, ◌++◌}
use lib.ListN.{length, replicate}
use lib.Dec.{eqb, ltb}
use borrow.Author.Tests.{eq-eqb, ne_eqb, lt-ltb, le-ltb}
use Rattle.decimal.specs.Decimal.{decimal}
use Rattle.pages.specs.Pages.{Page, write}
use Rattle.pages.proofs.Laws.{split, write_join}
use Rattle.sentences.specs.Spelled.{State, quiet, choice_of, bar_of, end_of, run_of, column_of, zeros_of, shown_of, sign_of}

module _ (s : State) (b next n : ℕ) where
  pub sign_choice : b ≡ 91 → sign_of s b next n ≡ choice_of s n
  unfolding sign_of
  sign_choice e = rw (eq-eqb b 91 e)

  module _ (n1 : b ≡ 91 → ⊥) where
    pub sign-bar : b ≡ 124 → sign_of s b next n ≡ bar_of s
    unfolding sign_of
    sign-bar e = rw (ne_eqb b 91 n1, eq-eqb b 124 e)

    module _ (n2 : b ≡ 124 → ⊥) where
      pub sign-end : b ≡ 93 → sign_of s b next n ≡ end_of s
      unfolding sign_of
      sign-end e = rw (ne_eqb b 91 n1, ne_eqb b 124 n2, eq-eqb b 93 e)

      module _ (n3 : b ≡ 93 → ⊥) where
        pub sign-hidden : 0 < s.hidden → sign_of s b next n ≡ quiet s
        unfolding sign_of
        sign-hidden h = rw (ne_eqb b 91 n1, ne_eqb b 124 n2, ne_eqb b 93 n3, lt-ltb 0 s.hidden h)

        pub sign-shown : s.hidden ≤ 0 → sign_of s b next n ≡ shown_of s b next n
        unfolding sign_of
        sign-shown h = rw (ne_eqb b 91 n1, ne_eqb b 124 n2, ne_eqb b 93 n3, le-ltb 0 s.hidden h)

  module _ (e : b ≡ 64) where
    pub shown-run : next ≡ 64 → shown_of s b next n ≡ run_of s
    unfolding shown_of
    shown-run q = rw (eq-eqb b 64 e, eq-eqb next 64 q)

    pub shown-column : (next ≡ 64 → ⊥) → shown_of s b next n ≡ column_of s n
    unfolding shown_of
    shown-column q = rw (eq-eqb b 64 e, ne_eqb next 64 q)

  module _ (n4 : b ≡ 64 → ⊥) where
    pub shown-zero-run : b ≡ 36 → next ≡ 36 → shown_of s b next n ≡ run_of s
    unfolding shown_of
    shown-zero-run e q = rw (ne_eqb b 64 n4, eq-eqb b 36 e, eq-eqb next 36 q)

    pub shown-zeros : b ≡ 36 → (next ≡ 36 → ⊥) → shown_of s b next n ≡ zeros_of s n
    unfolding shown_of
    shown-zeros e q = rw (ne_eqb b 64 n4, eq-eqb b 36 e, ne_eqb next 36 q)

    pub shown-plain : (b ≡ 36 → ⊥) → shown_of s b next n ≡ record { bytes = b ∷ []; after = s }
    unfolding shown_of
    shown-plain n5 = rw (ne_eqb b 64 n4, ne_eqb b 36 n5)

-- ---- a number with what stands in front of it

-- one byte so many times, then the digits
pub led_page : (p q r : Page) (n lead k : ℕ) → q ≡ write p (replicate k lead) → r ≡ write q (decimal n)
    → r ≡ write p (replicate k lead ++ decimal n)
led_page p q r n lead k h1 h2 = h2 ∙ (ap (λ o. write o (decimal n)) h1 ∙ write_join p (replicate k lead) (decimal n))

-- ---- a sign adds at most one to each count

pub record Grows (s t : State) : Type 0 where
  pub taken : t.taken ≤ s.taken + 1
  pub run : t.run ≤ s.run + 1
  pub over : t.over ≤ 256

shown_grows : (s : State) (b next n : ℕ) → s.over ≤ 256 → Grows s (shown_of s b next n).after
unfolding shown_of
shown_grows s b next n o =
    split (eqb b 64)
    (λ e.
    split (eqb next 64)
    (λ f. rw (e, f) (record { taken = omega arith; run = omega arith; over = o }))
    (λ f. rw (e, f) (record { taken = omega arith; run = omega arith; over = min-le_right (length (decimal n) + s.over - (s.run + 1)) 256 })))
    (λ e.
    split (eqb b 36)
    (λ f.
    split (eqb next 36)
    (λ g. rw (e, f, g) (record { taken = omega arith; run = omega arith; over = o }))
    (λ g. rw (e, f, g) (record { taken = omega arith; run = omega arith; over = o })))
    (λ f. rw (e, f) (record { taken = omega arith; run = omega arith; over = o })))

pub grows : (s : State) (b next n : ℕ) → s.over ≤ 256 → Grows s (sign_of s b next n).after
unfolding sign_of
grows s b next n o =
    split (eqb b 91)
    (λ e. rw e (record { taken = omega arith; run = omega arith; over = o }))
    (λ e1.
    split (eqb b 124)
    (λ e. rw (e1, e) (record { taken = omega arith; run = omega arith; over = o }))
    (λ e2.
    split (eqb b 93)
    (λ e. rw (e1, e2, e) (record { taken = omega arith; run = omega arith; over = o }))
    (λ e3.
    split (ltb 0 s.hidden)
    (λ e. rw (e1, e2, e3, e) (record { taken = omega arith; run = omega arith; over = o }))
    (λ e. rw (e1, e2, e3, e) (shown_grows s b next n o)))))
