-- The page of an answer, by what the answer is.
use mathlib.Core.Path.{◌≡◌, ◌∙◌, ap}
use Prim.Native.Nat.{ℕ}
use mathlib.Core.List.{List}
use Rattle.model.specs.Refusals.{Answer, fine, refused}
use Rattle.pages.specs.Pages.{Lies}
use Rattle.pages.proofs.Laws.{lies_as}
use Rattle.sentences.specs.Sentences.{refusal_page, answer_page}

module _ {A : Type 0} (slots : ℕ) (page : A → List ℕ) {a : Answer A} {old : List ℕ} {r : ℕ} {new : List ℕ} where
  -- a value has its own page
  pub fine_page : {v : A} → fine v ≡ a → Lies (page v) old r new → Lies (answer_page slots page a) old r new
  fine_page e l = lies_as (ap (answer_page slots page) e) l

  -- a refusal has its sentence
  pub refused_page : {n p w : ℕ} → w ≡ slots → refused n p ≡ a → Lies (refusal_page n p w) old r new → Lies (answer_page slots page a) old r new
  refused_page {n} {p} h e l = lies_as (ap (refusal_page n p) h ∙ ap (answer_page slots page) e) l
