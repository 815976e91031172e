-- The loop over a text: what is left of it decides.
use mathlib.Core.Path.{◌≡◌, refl, sym, ◌∙◌, ap}
use Prim.Native.Nat.{ℕ, suc, ◌+◌, ◌≤◌, ◌<◌}
use native.Mathlib.Omega.{arith}
use mathlib.Core.List.{List, ◌++◌}
use lib.ListN.{length, get_or, drop, drop_of_length-le}
use lib.Seq.{drop-cons, get_or-drop}
use Rattle.pages.specs.Pages.{Page, write}
use Rattle.pages.proofs.Laws.{write_join}
use Rattle.sentences.specs.Spelled.{State, Sign, sign_of, spelled_from, spelled}
use Rattle.sentences.specs.Signed.{state_of, Small, Signed}
use Rattle.sentences.specs.declared.Pen.{Pen}
use Rattle.sentences.proofs.Signs.{grows}

-- i bytes of the text are laid, and the others decide
pub record Laying (text numbers : List ℕ) (page₀ : Page) (pen : Pen) (i : ℕ) (page : Page) : Type 0 where
  pub inside : i ≤ length text
  pub taken : pen.taken ≤ i
  pub run : pen.run ≤ i
  pub over : pen.over ≤ 256
  pub left : write page (spelled_from (state_of pen) numbers (drop i text)) ≡ write page₀ (spelled text numbers)

pub laying_begins : (text numbers : List ℕ) (page : Page) → Laying text numbers page (record { taken = 0; run = 0; over = 0; hidden = 0 }) 0 page
unfolding spelled
laying_begins text numbers page = record { inside = omega arith; taken = omega arith; run = omega arith; over = omega arith; left = refl }

-- what stands for the rest of a text begins with its first byte's sign
spelled_on : (s : State) (numbers text : List ℕ) (i next n : ℕ) → i < length text → next ≡ get_or text (i + 1) 0 → n ≡ get_or numbers s.taken 0
    → let sign = sign_of s (get_or text i 0) next n in
    spelled_from s numbers (drop i text) ≡ sign.bytes ++ spelled_from sign.after numbers (drop (suc i) text)
spelled_on s numbers text i next n h en eb =
    let z : suc i + 0 ≡ i + 1 = omega arith in
    let first : next ≡ get_or (drop (suc i) text) 0 0 = en ∙ (ap (λ k. get_or text k 0) (sym z) ∙ sym (get_or-drop (suc i) text 0 0)) in
    rw (drop-cons text i 0 h, first, eb)

module _ (text numbers : List ℕ) (page₀ : Page) (pen : Pen) (i : ℕ) (page : Page) (l : Laying text numbers page₀ pen i page) where
  pub laying_small : i < length text → length text < 18446744073709551616 → Small (state_of pen)
  laying_small h f = record { taken = omega (arith, l.taken); run = omega (arith, l.run); over = l.over }

  -- one sign more, laid by the pen as it is told
  on_by : (sign : Sign) (pen' : Pen) (page' : Page) → Signed sign page pen' page'
      → spelled_from (state_of pen) numbers (drop i text) ≡ sign.bytes ++ spelled_from sign.after numbers (drop (i + 1) text)
      → write page' (spelled_from (state_of pen') numbers (drop (i + 1) text)) ≡ write page₀ (spelled text numbers)
  on_by sign pen' page' s w =
      ap (λ q. write page' (spelled_from q numbers (drop (i + 1) text))) s.state
      ∙ (ap (λ p. write p (spelled_from sign.after numbers (drop (i + 1) text))) s.page
      ∙ (write_join page sign.bytes (spelled_from sign.after numbers (drop (i + 1) text))
      ∙ (ap (write page) (sym w) ∙ l.left)))

  pub laying_on : (pen' : Pen) (page' : Page) (next n : ℕ) → i < length text → next ≡ get_or text (i + 1) 0 → n ≡ get_or numbers pen.taken 0
      → Signed (sign_of (state_of pen) (get_or text i 0) next n) page pen' page' → Laying text numbers page₀ pen' (i + 1) page'
  laying_on pen' page' next n h en eb s =
      let one : i + 1 ≡ suc i = omega arith in
      let g = grows (state_of pen) (get_or text i 0) next n l.over in
      record {
        inside = omega arith;
        taken = omega (arith, l.taken, g.taken, ap (λ q. q.taken) s.state);
        run = omega (arith, l.run, g.run, ap (λ q. q.run) s.state);
        over = omega (arith, g.over, ap (λ q. q.over) s.state);
        left = on_by _ pen' page' s (rw one (spelled_on (state_of pen) numbers text i next n h en eb));
      }

  pub laying_ends : length text ≤ i → page ≡ write page₀ (spelled text numbers)
  laying_ends h = rw (drop_of_length-le text h) at l.left
