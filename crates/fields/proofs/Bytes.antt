-- Laws of a number's bytes: what is written is read back, and what is read is what stood there. Assumes nothing.
use mathlib.Core.Path.{◌≡◌, refl, ◌∙◌, ap}
use Prim.Native.Nat.{ℕ, zero, suc, ◌+◌, ◌*◌, ◌/◌, ◌%◌, ◌^◌, ◌≤◌, ◌<◌}
use native.Mathlib.Nat.{pow-succ', pow-zero, zero-add, mul-suc}
use native.Mathlib.Omega.{arith}
use mathlib.Core.List.{List, [], ◌∷◌, ◌++◌, append_assoc}
use lib.ListN.{length, get_or, take, drop, length-append}
use lib.Seq.{drop-cons}
use Rattle.fields.specs.Bytes.{num_at, bytes_of, bytes_of_all}

-- every element is below m; past the end 0 stands for one
abbrev pub AllBelow : (m : ℕ) → List ℕ → Type 0
AllBelow m l = (i : ℕ) → get_or l i 0 < m

-- every element is a byte
abbrev pub AllBytes : List ℕ → Type 0
AllBytes l = AllBelow 256 l

-- a number that begins past the first byte does not see it
pub num_cons : (k at x : ℕ) (l : List ℕ) → num_at k (suc at) (x ∷ l) ≡ num_at k at l
unfolding num_at
num_cons zero at x l = refl
num_cons (suc k) at x l = rw (num_cons k (suc at) x l)

-- nor does one that begins past p see p
pub num_after : (p : List ℕ) (k at : ℕ) (l : List ℕ) → num_at k (length p + at) (p ++ l) ≡ num_at k at l
num_after [] k at l = rw zero-add
num_after (x ∷ p) k at l =
    let e : suc (length p) + at ≡ suc (length p + at) = omega arith in
    rw e (num_cons k (length p + at) x (p ++ l) ∙ num_after p k at l)

-- a number written is read back
pub num_bytes : (k x : ℕ) (q : List ℕ) → x < 256 ^ k → num_at k 0 (bytes_of k x ++ q) ≡ x
unfolding num_at bytes_of
num_bytes zero x q h = omega (arith, pow-zero 256)
num_bytes (suc k) x q h =
    let small : x / 256 < 256 ^ k = omega (arith, pow-succ' 256 k) in
    let e : num_at k 1 (x % 256 ∷ bytes_of k (x / 256) ++ q) ≡ x / 256 = num_cons k 0 (x % 256) (bytes_of k (x / 256) ++ q) ∙ num_bytes k (x / 256) q small in
    omega arith

-- also where it stands behind p
pub num_bytes_after : (p : List ℕ) (k x : ℕ) (q : List ℕ) → x < 256 ^ k → num_at k (length p) (p ++ (bytes_of k x ++ q)) ≡ x
num_bytes_after p k x q h =
    let z : length p ≡ length p + 0 = omega arith in rw z (num_after p k 0 (bytes_of k x ++ q) ∙ num_bytes k x q h)

-- k bytes are k bytes
pub length-bytes : (k x : ℕ) → length (bytes_of k x) ≡ k
unfolding bytes_of
length-bytes zero x = refl
length-bytes (suc k) x = ap suc (length-bytes k (x / 256))

-- and each is one
pub bytes_small : (k x : ℕ) → AllBytes (bytes_of k x)
unfolding bytes_of
bytes_small zero x i = omega arith
bytes_small (suc k) x zero = omega arith
bytes_small (suc k) x (suc i) = bytes_small k (x / 256) i

-- k bytes hold a number below 256 ^ k
pub num_below : (k at : ℕ) (l : List ℕ) → AllBytes l → num_at k at l < 256 ^ k
unfolding num_at
num_below zero at l b = omega (arith, pow-zero 256)
num_below (suc k) at l b = omega (arith, pow-succ' 256 k, b at, num_below k (suc at) l b)

-- the bytes of a number read are those that stand there
pub bytes_num : (k at : ℕ) (l : List ℕ) → at + k ≤ length l → AllBytes l → bytes_of k (num_at k at l) ≡ take k (drop at l)
unfolding num_at bytes_of
bytes_num zero at l h b = refl
bytes_num (suc k) at l h b =
    let low : (get_or l at 0 + 256 * num_at k (suc at) l) % 256 ≡ get_or l at 0 = omega (arith, b at) in
    let high : (get_or l at 0 + 256 * num_at k (suc at) l) / 256 ≡ num_at k (suc at) l = omega (arith, b at) in
    let lt : at < length l = omega arith in
    rw (low, high, drop-cons l at 0 lt, bytes_num k (suc at) l (omega arith) b)

-- ---- number after number

-- k bytes to a number
pub length-bytes_all : (k : ℕ) (l : List ℕ) → length (bytes_of_all k l) ≡ k * length l
length-bytes_all k [] = omega arith
length-bytes_all k (x ∷ l) =
    length-append (bytes_of k x) (bytes_of_all k l)
    ∙ omega (arith, length-bytes k x, length-bytes_all k l, mul-suc k (length l))

-- each number is read back at its place
pub num_bytes_all : (k t : ℕ) (l q : List ℕ) → t < length l → AllBelow (256 ^ k) l → num_at k (k * t) (bytes_of_all k l ++ q) ≡ get_or l t 0
num_bytes_all k t [] q h b = absurd (omega arith)
num_bytes_all k zero (x ∷ l) q h b =
    let z : k * 0 ≡ 0 = omega arith in rw (z, append_assoc) (num_bytes k x (bytes_of_all k l ++ q) (b 0))
num_bytes_all k (suc t) (x ∷ l) q h b =
    let e : k * suc t ≡ length (bytes_of k x) + k * t = omega (arith, length-bytes k x, mul-suc k t) in
    rw (e, append_assoc) (num_after (bytes_of k x) k (k * t) (bytes_of_all k l ++ q) ∙ num_bytes_all k t l q (omega arith) (λ i. b (suc i)))
