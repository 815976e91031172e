-- The previous requests, laid down from the next ones. Assumes nothing.
use mathlib.Core.Path.{◌≡◌}
use Prim.Native.Nat.{ℕ, ◌≤◌}
use mathlib.Core.List.{List}
use lib.ListN.{length}
use Rattle.links.specs.Chains.{Undoes}

-- the requests below t are laid down
pub record Turning (next old prev : List ℕ) (n t : ℕ) : Type 0 where
  pub upto : t ≤ n
  pub long : length prev ≡ length old
  pub undoes : Undoes next prev n t
