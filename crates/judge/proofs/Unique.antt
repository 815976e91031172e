-- The judge's promise leaves one answer.
use mathlib.Core.Path.{◌≡◌}
use Prim.Native.Nat.{ℕ}
use mathlib.Core.List.{List}
use Rattle.std.specs.Prelude.{Result}
use Rattle.model.specs.Refusals.{answered}
use Rattle.model.specs.declared.Refusal.{Refusal}
use Rattle.model.proofs.Refusals.{answered_unique}
use Rattle.judge.specs.Judge.{judge_of}

-- any two permitted verdicts coincide
pub judge_unique : (trace plan : List ℕ) (a b : Result ℕ Refusal) → answered a ≡ judge_of trace plan → answered b ≡ judge_of trace plan → a ≡ b
judge_unique trace plan a b p q = answered_unique a b (judge_of trace plan) p q
