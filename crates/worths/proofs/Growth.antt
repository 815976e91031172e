-- By how much raised worths grow. Assumes nothing.
use mathlib.Core.Path.{◌≡◌}
use Prim.Native.Nat.{ℕ, ◌+◌, ◌-◌, ◌≤◌, ◌<◌}
use native.Mathlib.Omega.{arith}
use mathlib.Core.List.{List}
use lib.ListN.{get_or}
use Rattle.worths.specs.Worths.{max_worth, Raised}

-- where the sum fits four bytes, a worth grows by all that its distance is short of d
pub raised_grown : {dist old new : List ℕ} {nodes d : ℕ} → Raised dist nodes d old new → (v : ℕ) → v < nodes → nodes ≤ 2050
    → get_or old v 0 + (d - get_or dist v 0) ≤ max_worth → get_or new v 0 ≡ get_or old v 0 + (d - get_or dist v 0)
raised_grown r v l m h = omega (arith, r.grown v l (omega arith))
