-- What the calls answer.
use Rattle.std.specs.Prelude.{◌≡◌, ℕ, ◌≤◌, List, length, drop, Option, Some, None}
use Rattle.decimal.specs.Decimal.{Found, found, none, numeral}
use Rattle.decimal.specs.declared.Number.{Number}

-- a digit, or 10 for none
abbrev pub digit_of : Option ℕ → ℕ
digit_of (Some d) = d
digit_of None = 10

-- the number, and what follows the place where its digits end
abbrev pub said : (text : List ℕ) → Option Number → Found
said text (Some n) = found n.value (drop n.next text)
said text None = none

-- the place where a number's digits end lies in the text
abbrev pub Inside : (text : List ℕ) → Option Number → Type 0
Inside text (Some n) = n.next ≤ length text
Inside text None = Unit {0}

-- the number that stands at a place of a text, and the place behind it
pub record Reads (text : List ℕ) (at top : ℕ) (r : Option Number) : Type 0 where
  pub number : said text r ≡ numeral top (drop at text)
  pub inside : Inside text r
