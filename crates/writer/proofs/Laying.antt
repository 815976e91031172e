-- Laws of bytes laid one run after the other. Assumes nothing.
use mathlib.Core.Path.{◌≡◌, refl, ◌∙◌}
use Prim.Native.Nat.{ℕ, suc, ◌+◌, ◌*◌, ◌/◌, ◌<◌}
use native.Mathlib.Nat.{div-div-eq-div-mul}
use native.Mathlib.Omega.{arith}
use mathlib.Core.List.{List, [], ◌∷◌, ◌++◌, append_assoc}
use lib.ListN.{length, get_or, set, take, length-append}
use lib.Seq.{sets, length-take-le, take-suc}
use mir.Syntax.{w32, w64}
use Rattle.std.specs.Int.{to_le_bytes}
use Rattle.fields.specs.Bytes.{bytes_of, bytes_of_all}
use Rattle.fields.proofs.Bytes.{length-bytes, length-bytes_all}
use Rattle.plan.specs.PlanFile.{plan_bytes}

-- ---- one run after another

-- two runs, the second where the first ends, are one
pub runs_join : (l : List ℕ) (i k : ℕ) (vs ws : List ℕ) → i + length vs ≡ k → sets (sets l i vs) k ws ≡ sets l i (vs ++ ws)
runs_join l i k [] ws h = let e : k ≡ i = omega arith in rw e
runs_join l i k (a ∷ vs) ws h = runs_join (set l i a) (suc i) k vs ws (omega arith)

-- one byte more
pub byte_more : (l bytes : List ℕ) (at i : ℕ) → i < length bytes
    → set (sets l at (take i bytes)) (at + i) (get_or bytes i 0) ≡ sets l at (take (suc i) bytes)
byte_more l bytes at i h =
    runs_join l at (at + i) (take i bytes) (get_or bytes i 0 ∷ []) (omega (arith, length-take-le i bytes (omega arith)))
    ∙ rw (take-suc bytes i 0 h)

-- ---- numbers

-- the bytes of numbers are those of the first and those of the others
bytes_join : (k : ℕ) (xs ys : List ℕ) → bytes_of_all k (xs ++ ys) ≡ bytes_of_all k xs ++ bytes_of_all k ys
bytes_join k [] ys = refl
bytes_join k (x ∷ xs) ys = rw (bytes_join k xs ys, append_assoc)

-- one rent more
pub rent_more : (l rents : List ℕ) (at t : ℕ) → t < length rents
    → sets (sets l at (bytes_of_all 4 (take t rents))) (at + 4 * t) (bytes_of 4 (get_or rents t 0)) ≡ sets l at (bytes_of_all 4 (take (suc t) rents))
unfolding bytes_of
rent_more l rents at t h =
    runs_join l at (at + 4 * t) (bytes_of_all 4 (take t rents)) (bytes_of 4 (get_or rents t 0))
    (omega (arith, length-bytes_all 4 (take t rents), length-take-le t rents (omega arith)))
    ∙ rw (take-suc rents t 0 h, bytes_join 4 (take t rents) (get_or rents t 0 ∷ []))

-- four low bytes of a number are its four
pub four_low : (x : ℕ) → to_le_bytes w32 x ≡ bytes_of 4 x
unfolding bytes_of
four_low x =
    let b : x / 256 / 256 ≡ x / 65536 = omega arith in
    let c : x / 65536 / 256 ≡ x / 16777216 = omega arith in
    rw (b, c)

-- eight low bytes are its eight
pub eight_low : (x : ℕ) → to_le_bytes w64 x ≡ bytes_of 8 x
unfolding bytes_of
eight_low x =
    let b : x / 256 / 256 ≡ x / 65536 = div-div-eq-div-mul x 256 256 in
    let c : x / 65536 / 256 ≡ x / 16777216 = div-div-eq-div-mul x 65536 256 in
    let d : x / 16777216 / 256 ≡ x / 4294967296 = div-div-eq-div-mul x 16777216 256 in
    let e : x / 4294967296 / 256 ≡ x / 1099511627776 = div-div-eq-div-mul x 4294967296 256 in
    let f : x / 1099511627776 / 256 ≡ x / 281474976710656 = div-div-eq-div-mul x 1099511627776 256 in
    let g : x / 281474976710656 / 256 ≡ x / 72057594037927936 = div-div-eq-div-mul x 281474976710656 256 in
    rw (b, c, d, e, f, g)

-- and the first two of eight are two
pub two_low : (x : ℕ) → take 2 (to_le_bytes w64 x) ≡ bytes_of 2 x
unfolding bytes_of
two_low x = refl

-- ---- the whole plan

-- five runs, each where the one before it ends
five_runs : (l a b c d e : List ℕ) (n : ℕ) → length a ≡ 6 → length b ≡ 2 → length c ≡ 8 → length d ≡ n
    → sets (sets (sets (sets (sets l 0 a) 6 b) 8 c) 16 d) (16 + n) e ≡ sets l 0 (a ++ b ++ c ++ d ++ e)
five_runs l a b c d e n ha hb hc hd =
    let two : length (a ++ b) ≡ 8 = omega (arith, length-append a b) in
    let three : length ((a ++ b) ++ c) ≡ 16 = omega (arith, length-append (a ++ b) c) in
    let four : length (((a ++ b) ++ c) ++ d) ≡ 16 + n = omega (arith, length-append ((a ++ b) ++ c) d) in
    rw (runs_join l 0 6 a b (omega arith), runs_join l 0 8 (a ++ b) c (omega arith), runs_join l 0 16 ((a ++ b) ++ c) d (omega arith), runs_join l 0 (16 + n) (((a ++ b) ++ c) ++ d) e (omega arith))
    (simp append_assoc)

-- the mark, the count, the cost, the flags and the rents, each where the one before it ends, are the plan
pub plan_laid : (l : List ℕ) (cost : ℕ) (flags rents : List ℕ)
    → sets (sets (sets (sets (sets l 0 (67 ∷ 80 ∷ 76 ∷ 1 ∷ 0 ∷ 0 ∷ [])) 6 (bytes_of 2 (length flags))) 8 (bytes_of 8 cost)) 16 flags) (16 + length flags) (bytes_of_all 4 rents)
    ≡ sets l 0 (plan_bytes cost flags rents)
unfolding plan_bytes bytes_of
plan_laid l cost flags rents =
    five_runs l (67 ∷ 80 ∷ 76 ∷ 1 ∷ 0 ∷ 0 ∷ []) (bytes_of 2 (length flags)) (bytes_of 8 cost) flags (bytes_of_all 4 rents) (length flags)
    refl (length-bytes 2 (length flags)) (length-bytes 8 cost) refl
