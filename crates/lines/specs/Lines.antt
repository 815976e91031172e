-- The one line of an answer, as bytes.
use Rattle.std.specs.Prelude.{ℕ, List, ◌++◌}
use Rattle.model.specs.Refusals.{Answer, fine, refused}
use Rattle.pages.specs.Letters.{letters}
use Rattle.decimal.specs.Decimal.{decimal}

-- `least C`
unfoldable pub least_line : (cost : ℕ) → List ℕ
least_line cost = letters "least " ++ (decimal cost ++ letters "\n")

-- `accepted C`
unfoldable pub accepted_line : (cost : ℕ) → List ℕ
accepted_line cost = letters "accepted " ++ (decimal cost ++ letters "\n")

-- `refused N at P`
unfoldable pub refused_line : (number place : ℕ) → List ℕ
refused_line number place = letters "refused " ++ (decimal number ++ (letters " at " ++ (decimal place ++ letters "\n")))

-- the line of what solve answers
abbrev pub solved_line : Answer ℕ → List ℕ
solved_line (fine cost) = least_line cost
solved_line (refused number place) = refused_line number place

-- the line of what the judge answers
abbrev pub judged_line : Answer ℕ → List ℕ
judged_line (fine cost) = accepted_line cost
judged_line (refused number place) = refused_line number place
