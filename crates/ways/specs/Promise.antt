-- What the calls of `ways` promise of the lists that are lent to them. Assumes nothing.
use Rattle.std.specs.Prelude.{◌≡◌, ℕ, zero, suc, ◌*◌, cond, List, [], ◌∷◌, ◌++◌, length, drop, ltb}
use Rattle.trace.specs.TraceFile.{requests_at}
use Rattle.ways.specs.Ways.{source_by, charge_at, length_by}

-- what f says of the three kinds of u, of those of u + 1, .. , of k nodes in all
unfoldable pub rows : (f : ℕ → ℕ → ℕ) → (k u : ℕ) → List ℕ
rows f zero u = []
rows f (suc k) u = f u 0 ∷ f u 1 ∷ f u 2 ∷ rows f k (suc u)

-- what f says of t, t + 1, .. , of k requests in all
unfoldable pub listed : (f : ℕ → ℕ) → (k t : ℕ) → List ℕ
listed f zero t = []
listed f (suc k) t = f t ∷ listed f k (suc t)

-- a lent list after a call: three numbers for each node in front and the rest kept, or all kept if there are over 1024 requests
abbrev pub laid_of : (n : ℕ) → (f : ℕ → ℕ → ℕ) → List ℕ → List ℕ
laid_of n f l = cond (ltb 1024 n) l (rows f (suc (2 * n)) 0 ++ drop (3 * suc (2 * n)) l)

-- the list of sources as it came in and as it goes out
pub record Sourced (n : ℕ) (next prev from from' : List ℕ) : Type 0 where
  pub laid : from' ≡ laid_of n (source_by n next prev) from
  pub long : length from' ≡ length from

-- the list of charges after the call: those of all requests in front, or all kept if there are over 1024
abbrev pub charged_of : (tr old : List ℕ) → List ℕ
charged_of tr old = cond (ltb 1024 (requests_at tr)) old (listed (charge_at tr) (requests_at tr) 0 ++ drop (requests_at tr) old)

-- the list of charges as it came in and as it goes out
pub record Charged (tr old new : List ℕ) : Type 0 where
  pub laid : new ≡ charged_of tr old
  pub long : length new ≡ length old

-- the list of lengths as it came in and as it goes out
pub record Measured (n fill k : ℕ) (from charges flags worth len len' : List ℕ) : Type 0 where
  pub laid : len' ≡ laid_of n (length_by n fill k from charges flags worth) len
  pub long : length len' ≡ length len
