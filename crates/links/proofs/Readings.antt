-- The items of a trace, read request by request. Assumes nothing.
use mathlib.Core.Path.{◌≡◌}
use Prim.Native.Nat.{ℕ, ◌≤◌}
use mathlib.Core.List.{List}
use lib.ListN.{length}
use Rattle.links.specs.Chains.{Read}

-- the items of the requests below t are read
pub record Reading (trace items : List ℕ) (n t : ℕ) : Type 0 where
  pub upto : t ≤ n
  pub long : length items ≡ n
  pub read : Read trace items t
