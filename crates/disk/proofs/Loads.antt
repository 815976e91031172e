-- What a caller learns who takes a load apart. Assumes nothing.
use Rattle.std.proofs.Common.{ℕ, ◌≡◌, List, Option, Some}
use Rattle.disk.specs.Load.{IsPrefixLen, Holds}

-- the count that a load answered lies within the buffer, as `&buf[..n]` asks
pub loaded_within : (r : Option ℕ) (n : ℕ) (buf : List ℕ) → Holds r buf → r ≡ Some n → IsPrefixLen n buf
loaded_within r n buf h e = rw e at h
