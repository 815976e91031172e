-- Numbers in bytes, least byte first. Assumes nothing.
use Rattle.std.specs.Prelude.{ℕ, zero, suc, ◌+◌, ◌*◌, ◌/◌, ◌%◌, Bool, true, ◌&&◌, List, [], ◌∷◌, ◌++◌, get_or, eqb}

-- the number in the k bytes from place `at` on; past the end bytes count as 0
unfoldable pub num_at : (k at : ℕ) → List ℕ → ℕ
num_at zero at l = 0
num_at (suc k) at l = get_or l at 0 + 256 * num_at k (suc at) l

-- the k bytes of a number
unfoldable pub bytes_of : (k x : ℕ) → List ℕ
bytes_of zero x = []
bytes_of (suc k) x = x % 256 ∷ bytes_of k (x / 256)

-- whether these bytes stand from place `at` on
abbrev pub stand_at : (mark : List ℕ) → (at : ℕ) → List ℕ → Bool
stand_at [] at l = true
stand_at (b ∷ mark) at l = eqb (get_or l at 0) b && stand_at mark (suc at) l

-- the bytes of each number in turn, k to a number
abbrev pub bytes_of_all : (k : ℕ) → List ℕ → List ℕ
bytes_of_all k [] = []
bytes_of_all k (x ∷ l) = bytes_of k x ++ bytes_of_all k l

-- the list with these put in its first places; as many as it has places for
abbrev pub put_front : List ℕ → List ℕ → List ℕ
put_front [] l = l
put_front (x ∷ xs) [] = []
put_front (x ∷ xs) (y ∷ l) = x ∷ put_front xs l
