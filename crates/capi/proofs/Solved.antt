-- A refusal that solve permits is the row that holds, so it has a code. Assumes nothing.
use mathlib.Core.Path.{◌≡◌}
use Prim.Native.Nat.{ℕ}
use native.Mathlib.Omega.{arith}
use mathlib.Core.List.{List}
use lib.ListN.{length}
use Rattle.std.specs.Prelude.{Result, Ok, Err}
use Rattle.model.specs.Refusals.{Tried, passes, refusal, Answer, fine, refused, number_of, place_of}
use Rattle.model.specs.declared.Refusal.{Refusal}
use Rattle.solver.specs.Solve.{solve_tried, Permitted, Promise}
use Rattle.capi.specs.Codes.{Coded}
use Rattle.capi.proofs.Small.{given_codable, solve_small}

permitted_refusal : (t : Tried) (trace before after : List ℕ) (r : Refusal) → Permitted t trace before (Err r) after
    → refusal (number_of r) (place_of r) ≡ t
permitted_refusal passes trace before after r p = let z : ◌≡◌ {A = Answer ℕ} (refused (number_of r) (place_of r)) (fine p.cost) = p.answer in absurd (let w : ◌≡◌ {A = ℕ} 0 1 = cc in omega arith)
permitted_refusal (refusal number place) trace before after r p = let z : ◌≡◌ {A = Answer ℕ} (refused (number_of r) (place_of r)) (refused number place) = p.0 in cc

-- what solve answers has a code
pub solved_coded : (trace before after : List ℕ) (r : Result ℕ Refusal) → Promise trace before r after → Coded r
solved_coded trace before after (Ok c) p = tt
solved_coded trace before after (Err r) p =
    given_codable (solve_small trace (length before)) (permitted_refusal (solve_tried trace (length before)) trace before after r p)
