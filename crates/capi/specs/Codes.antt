-- What the calls answer in C: 0 when the work is done, else the refusal's number + 256 · its place; and what lent numbers then hold.
-- Assumes nothing.
use Rattle.std.specs.Prelude.{◌≡◌, ℕ, ◌+◌, ◌*◌, ◌≤◌, ◌<◌, List, [], ◌∷◌, Float, Result, Ok, Err}
use Rattle.model.specs.Refusals.{Tried, passes, refusal, Answer, fine, refused, number_of, place_of, answered}
use Rattle.model.specs.declared.Refusal.{Refusal}
use Rattle.replay.specs.Replay.{Totals}
use Rattle.solver.specs.Solve.{Promise}
use Rattle.ratio.specs.declared.Gap.{Gap}
use Rattle.ratio.specs.declared.Gap.TheVariants.{NoCost, NoRatio, Ratio}

-- the code of rows that were tried
abbrev pub code_of_tried : Tried → ℕ
code_of_tried passes = 0
code_of_tried (refusal number place) = number + 256 * place

-- the code of an answer
abbrev pub code_of : {A : Type 0} → Answer A → ℕ
code_of (fine a) = 0
code_of (refused number place) = number + 256 * place

-- what a lent value is after the call: the answer's, or as it was
abbrev pub value_or : {A : Type 0} → Answer A → A → A
value_or (fine a) old = a
value_or (refused number place) old = old

-- the four totals in their order, or as they were
abbrev pub totals_or : Answer Totals → List ℕ → List ℕ
totals_or (fine s) old = s.total ∷ s.misses ∷ s.fills ∷ s.strikes ∷ []
totals_or (refused number place) old = old

-- the number of a gap's case: 0 no cost, 1 no ratio, 2 a ratio
abbrev pub kind_of : Gap → ℕ
kind_of NoCost = 0
kind_of NoRatio = 1
kind_of (Ratio q) = 2

-- the kind after the call
abbrev pub kind_or : Answer Gap → ℕ → ℕ
kind_or (fine g) old = kind_of g
kind_or (refused number place) old = old

-- the ratio that a gap leaves: written for a ratio alone
abbrev pub ratio_in : Gap → Float → Float
ratio_in NoCost old = old
ratio_in NoRatio old = old
ratio_in (Ratio q) old = q

-- the ratio after the call
abbrev pub ratio_or : Answer Gap → Float → Float
ratio_or (fine g) old = ratio_in g old
ratio_or (refused number place) old = old

-- a refusal whose code fits 64 bits, is not 0, and tells number and place again
pub record Codable (number place : ℕ) : Type 0 where
  pub some : 0 < number
  pub byte : number < 256
  pub near : place ≤ 65536

-- an answer whose refusal, if it is one, has a code
abbrev pub Coded : {A : Type 0} → Result A Refusal → Type 0
Coded (Ok a) = Unit {0}
Coded (Err r) = Codable (number_of r) (place_of r)

-- what gp_solve leaves: some answer that solve's promise permits, its code, its cost, and the buffer
pub record Solves (trace before : List ℕ) (cost code : ℕ) (after : List ℕ) (cost' : ℕ) : Type 0 where
  pub answer : Result ℕ Refusal
  pub promise : Promise trace before answer after
  pub code_is : code ≡ code_of (answered answer)
  pub cost_is : cost' ≡ value_or (answered answer) cost
