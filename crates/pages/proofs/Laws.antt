-- Laws of a page that is filled from its start on.
use mathlib.Core.Path.{◌≡◌, refl, sym, ◌∙◌, ap}
use Prim.Native.Nat.{ℕ, suc, ◌+◌, ◌-◌, ◌≤◌, ◌<◌, min}
use native.Mathlib.Nat.{min-eq_left, min-eq_right}
use native.Mathlib.Omega.{arith}
use mathlib.Core.Bool.{Bool, true, false}
use mathlib.Core.List.{List, [], ◌∷◌, ◌++◌}
use lib.ListN.{length, set, take, drop, replicate, length-append, length-set, drop_of_length-le, take-append-drop}
use lib.Seq.{sets, sets-eq, set_out, length-take-le, take_all, take_at}
use lib.Dec.{ltb}
use borrow.Author.Tests.{lt-ltb, le-ltb, ltb-true, ltb-false}
use Rattle.pages.specs.Pages.{Page, filled, put, write, Lies, Cut}

-- a test passed or failed
pub split {ℓ} : {X : Type ℓ} (b : Bool) → (b ≡ true → X) → (b ≡ false → X) → X
split true f g = f refl
split false f g = g refl

-- the bytes of a page
abbrev pub bytes_in : Page → List ℕ
bytes_in (filled at l) = l

-- one run after another is both as one
pub write_join : (p : Page) (xs ys : List ℕ) → write (write p xs) ys ≡ write p (xs ++ ys)
write_join p [] ys = refl
write_join p (x ∷ xs) ys = write_join (put p x) xs ys

-- no byte makes a page longer or shorter
length-put : (p : Page) (b : ℕ) → length (bytes_in (put p b)) ≡ length (bytes_in p)
length-put (filled at l) b = length-set l at b

pub length-write : (p : Page) (bs : List ℕ) → length (bytes_in (write p bs)) ≡ length (bytes_in p)
length-write p [] = refl
length-write p (b ∷ bs) = length-write (put p b) bs ∙ length-put p b

-- two answers that a page's equation permits are the same
pub page_once : {p : Page} {r s : ℕ} {new new' : List ℕ} → filled r new ≡ p → filled s new' ≡ p → (r ≡ s) × (new ≡ new')
page_once {r = r} {s} {new} {new'} a b =
    let e : filled r new ≡ filled s new' = a ∙ sym b in
    let m : r ≡ s = cc in
    let n : new ≡ new' = cc in
    (m, n)

-- ---- the loop: what is left to be written decides

-- the same byte once more
pub repeat_more : (p p' q : Page) (count n b : ℕ) → n < count → p' ≡ put p b → write p (replicate (count - n) b) ≡ q
    → write p' (replicate (count - (n + 1)) b) ≡ q
repeat_more p p' q count n b h e w =
    let m : count - n ≡ suc (count - (n + 1)) = omega arith in
    ap (λ o. write o (replicate (count - (n + 1)) b)) e ∙ rw m at w

-- ---- a page that has room

-- the bytes stand one after the other
write_room : (at : ℕ) (l bs : List ℕ) → at + length bs ≤ length l → write (filled at l) bs ≡ filled (at + length bs) (sets l at bs)
write_room at l [] h = let z : at + 0 ≡ at = omega arith in rw z
write_room at l (b ∷ bs) h =
    let z : at + suc (length bs) ≡ suc at + length bs = omega arith in
    let r : suc at + length bs ≤ length (set l at b) = omega (arith, length-set l at b) in
    rw (lt-ltb at (length l) (omega arith), z) (write_room (suc at) (set l at b) bs r)

-- from the start they are what the page begins with
write_start : (l bs : List ℕ) → length bs ≤ length l → write (filled 0 l) bs ≡ filled (length bs) (bs ++ drop (length bs) l)
write_start l bs h =
    let z : 0 + length bs ≡ length bs = omega arith in
    let e : sets l 0 bs ≡ bs ++ drop (0 + length bs) l = sets-eq bs l 0 (omega arith) in
    write_room 0 l bs (omega arith) ∙ (rw (e, z))

pub lies : (bs old : List ℕ) (r : ℕ) (new : List ℕ) → length bs ≤ length old → filled r new ≡ write (filled 0 old) bs → Lies bs old r new
lies bs old r new h e =
    let q : filled r new ≡ filled (length bs) (bs ++ drop (length bs) old) = e ∙ write_start old bs h in
    record { size = cc; held = cc }

-- the first r bytes are those that were laid
pub lies_first : {bs old : List ℕ} {r : ℕ} {new : List ℕ} → Lies bs old r new → take r new ≡ bs
lies_first {bs} {old} {r} l = rw l.held (take_at bs (drop (length bs) old) r (sym l.size))

-- nothing lies on a page that is left as it is
pub lies_none : (old : List ℕ) → Lies [] old 0 old
lies_none old = record { size = refl; held = refl }

-- what lies there is what it is shown to be
pub lies_as : {bs cs old : List ℕ} {r : ℕ} {new : List ℕ} → bs ≡ cs → Lies bs old r new → Lies cs old r new
lies_as e l = rw e at l

-- two answers that may be given are the same
pub lies_once : {bs old : List ℕ} {r s : ℕ} {new new' : List ℕ} → Lies bs old r new → Lies bs old s new' → (r ≡ s) × (new ≡ new')
lies_once a b = (a.size ∙ sym b.size, a.held ∙ sym b.held)

-- ---- a page that may have no room

-- a full page stays as it is
write_full : (at : ℕ) (l bs : List ℕ) → length l ≤ at → write (filled at l) bs ≡ filled at l
write_full at l [] h = refl
write_full at l (b ∷ bs) h = rw (le-ltb at (length l) h, set_out l at b h) (write_full at l bs h)

-- what finds no room is left out
write_cut : (l bs : List ℕ) → write (filled 0 l) bs ≡ filled (min (length bs) (length l)) (take (length l) bs ++ drop (length bs) l)
write_cut l bs =
    split (ltb (length l) (length bs))
    (λ e.
    let lt : length l < length bs = ltb-true (length l) (length bs) e in
    let n : length (take (length l) bs) ≡ length l = length-take-le (length l) bs (omega arith) in
    let m : min (length bs) (length l) ≡ length l = min-eq_right (omega arith) in
    let none : drop (length (take (length l) bs)) l ≡ []
    = let h : length l ≤ length (take (length l) bs) = omega arith in drop_of_length-le l h in
    let none' : drop (length bs) l ≡ [] = let h : length l ≤ length bs = omega arith in drop_of_length-le l h in
    let front : write (filled 0 l) (take (length l) bs) ≡ filled (length l) (take (length l) bs ++ [])
    = write_start l (take (length l) bs) (omega arith) ∙ rw (none, n) in
    let long : length (take (length l) bs ++ []) ≡ length l = length-append (take (length l) bs) [] ∙ omega arith in
    ap (write (filled 0 l)) (sym (take-append-drop (length l) bs))
    ∙ (sym (write_join (filled 0 l) (take (length l) bs) (drop (length l) bs))
    ∙ (ap (λ p. write p (drop (length l) bs)) front
    ∙ (write_full (length l) (take (length l) bs ++ []) (drop (length l) bs) (omega arith)
    ∙ rw (m, none')))))
    (λ e.
    let le : length bs ≤ length l = ltb-false (length l) (length bs) e in
    let m : min (length bs) (length l) ≡ length bs = min-eq_left le in
    rw (m, take_all (length l) bs le) (write_start l bs le))

pub cut : (bs old : List ℕ) (r : ℕ) (new : List ℕ) → filled r new ≡ write (filled 0 old) bs → Cut bs old r new
cut bs old r new e =
    let q : filled r new ≡ filled (min (length bs) (length old)) (take (length old) bs ++ drop (length bs) old) = e ∙ write_cut old bs in
    record { size = cc; held = cc }

-- where there is room for all, nothing is left out
pub cut_lies : {bs old : List ℕ} {r : ℕ} {new : List ℕ} → length bs ≤ length old → Cut bs old r new → Lies bs old r new
cut_lies {bs} {old} h c =
    record {
      size = c.size ∙ min-eq_left h;
      held = c.held ∙ ap (λ l. l ++ drop (length bs) old) (take_all (length old) bs h);
    }

-- two answers that may be given are the same
pub cut_once : {bs old : List ℕ} {r s : ℕ} {new new' : List ℕ} → Cut bs old r new → Cut bs old s new' → (r ≡ s) × (new ≡ new')
cut_once a b = (a.size ∙ sym b.size, a.held ∙ sym b.held)
