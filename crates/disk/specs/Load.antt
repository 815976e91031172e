-- What a load promises of the lent buffer: counts, since no contract can say what a file holds, and the bytes of a reader that says
-- which it has. None where the failure has been said. Assumes nothing.
use Rattle.std.specs.Prelude.{List, ℕ, ◌≡◌, ◌≤◌, length, take}
use Rattle.std.specs.Prelude.{Option, Some, None}
use Rattle.std.specs.Io.KnownBytes.{Consumes}

-- `&xs[..n]` is within xs and has n bytes: the same as IsPrefixLen of the kit's io, which this crate no longer uses
abbrev pub IsPrefixLen : ℕ → List ℕ → Type 0
IsPrefixLen n xs = (n ≤ length xs) × (n ≡ length (take n xs))

-- the bytes that were loaded stand at the buffer's start, within it
abbrev pub Holds : Option ℕ → List ℕ → Type 0
Holds (Some n) buf = IsPrefixLen n buf
Holds None buf = Unit {0}

-- the same of two loads, each into its own buffer
abbrev pub HoldBoth : Option (ℕ × ℕ) → (first second : List ℕ) → Type 0
HoldBoth (Some (n, m)) first second = IsPrefixLen n first × IsPrefixLen m second
HoldBoth None first second = Unit {0}

-- the bytes that were loaded are the first that the reader had, where it says which it has, and no others are gone from it
abbrev pub Takes : Option ℕ → (old new : Option (List ℕ)) → List ℕ → Type 0
Takes (Some n) old new buf = Consumes old new (take n buf)
Takes None old new buf = Unit {0}
