-- The lists of a small trace, by hand: two reads of one item, each of cost 7, with F = 3. Assumes nothing.
use mathlib.Core.Path.{◌≡◌, refl}
use Prim.Native.Nat.{ℕ}
use mathlib.Core.List.{List, [], ◌∷◌}
use Rattle.fields.specs.Bytes.{num_at}
use Rattle.ways.specs.Ways.{closed, crowd_by, source_by, charge_at, length_by}
use Rattle.ways.specs.Promise.{rows, listed}

-- the trace, with one slot
abbrev small : List ℕ
small = 67 ∷ 84 ∷ 82 ∷ 1 ∷ 0 ∷ 1 ∷ 2 ∷ 0 ∷ 3 ∷ 0 ∷ 0 ∷ 0 ∷ 1 ∷ 0 ∷ 0 ∷ 0 ∷ 7 ∷ 0 ∷ 0 ∷ 0 ∷ 1 ∷ 0 ∷ 0 ∷ 0 ∷ 7 ∷ 0 ∷ 0 ∷ 0 ∷ []

-- what its requests are charged: twice the cost, for they are reads
small_charges : listed (charge_at small) 2 0 ≡ 14 ∷ 14 ∷ []
unfolding listed num_at
small_charges = refl

-- where its ways come from: three for each of points 0, 1, 2 and requests 0, 1
abbrev small_sources : List ℕ
small_sources = 3 ∷ 1 ∷ 0 ∷ 4 ∷ 2 ∷ 0 ∷ 2 ∷ 2 ∷ 1 ∷ 4 ∷ 3 ∷ 0 ∷ 4 ∷ 3 ∷ 1 ∷ []

all_sources : rows (source_by 2 (1 ∷ 2 ∷ []) (2 ∷ 0 ∷ [])) 5 0 ≡ small_sources
unfolding rows source_by
all_sources = refl

-- no flags, no slots, and the worths that fit them
none_held : rows (length_by 2 3 0 small_sources (14 ∷ 14 ∷ []) (0 ∷ 0 ∷ []) (4 ∷ 0 ∷ 0 ∷ 7 ∷ 0 ∷ [])) 5 0
    ≡ 3 ∷ closed ∷ closed ∷ 0 ∷ closed ∷ 4 ∷ closed ∷ closed ∷ 0 ∷ closed ∷ closed ∷ 0 ∷ closed ∷ 0 ∷ 3 ∷ []
unfolding rows length_by crowd_by
none_held = refl

-- the item is held in gap 0: with one slot the gap is full, with two it is not
gap_full : length_by 2 3 1 small_sources (14 ∷ 14 ∷ []) (1 ∷ 0 ∷ []) (0 ∷ 0 ∷ 0 ∷ 7 ∷ 0 ∷ []) 0 1 ≡ closed
unfolding length_by crowd_by
gap_full = refl

gap_open : length_by 2 3 2 small_sources (14 ∷ 14 ∷ []) (1 ∷ 0 ∷ []) (0 ∷ 0 ∷ 0 ∷ 7 ∷ 0 ∷ []) 0 1 ≡ 0
unfolding length_by crowd_by
gap_open = refl
