-- Laws of numbers in bytes: past the end they are 0, and a number grows byte by byte from its last. Assumes nothing.
use mathlib.Core.Path.{◌≡◌, refl}
use Prim.Native.Nat.{ℕ, zero, suc, ◌+◌, ◌-◌, ◌*◌, ◌^◌, ◌≤◌, ◌<◌}
use native.Mathlib.Nat.{pow-succ', pow-le-pow_right, one-le-pow}
use native.Mathlib.Numerals.{add-one}
use native.Mathlib.Omega.{arith}
use mathlib.Core.List.{List}
use lib.ListN.{length, get_or, get_or-eq_default}
use Rattle.fields.specs.Bytes.{num_at}

-- past the end a number is 0
pub num_past : (k at : ℕ) (l : List ℕ) → length l ≤ at → num_at k at l ≡ 0
unfolding num_at
num_past zero at l h = refl
num_past (suc k) at l h = omega (arith, get_or-eq_default l 0 h, num_past k (suc at) l (omega arith))

-- one byte more in front of a number whose last byte is not passed over
pub num_more : (k size at : ℕ) (l : List ℕ) → k < size → num_at (k + 1) (at + (size - (k + 1))) l ≡ 256 * num_at k (at + (size - k)) l + get_or l (at + (size - 1 - k)) 0
unfolding num_at
num_more k size at l h =
    let e : at + (size - k) ≡ suc (at + (size - suc k)) = omega arith in
    let b : at + (size - 1 - k) ≡ at + (size - suc k) = omega arith in
    let s : k + 1 ≡ suc k = omega arith in
    rw (s, e, b) (omega arith)

-- it stays below the next power
pub more_below : (k n x : ℕ) → n < 256 ^ k → x < 256 → 256 * n + x < 256 ^ (k + 1)
more_below k n x h b = rw add-one (omega (arith, pow-succ' 256 k))

-- which fits eight bytes up to the eighth
pub more_fits : (k n x : ℕ) → k < 8 → n < 256 ^ k → x < 256 → 256 * n + x < 18446744073709551616
more_fits k n x e h b =
    let up : 256 ^ (k + 1) ≤ 256 ^ 8 = pow-le-pow_right {n = 256} (omega arith) {i = k + 1} {j = 8} (omega arith) in
    omega (arith, more_below k n x h b, up)

-- no power is 0
pub below_some : (k : ℕ) → 0 < 256 ^ k
below_some k = one-le-pow k 256 (omega arith)
