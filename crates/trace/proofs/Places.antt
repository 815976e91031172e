-- Past the end one place is as good as another: what is read there is 0. Assumes nothing.
use mathlib.Core.Path.{◌≡◌, sym, ◌∙◌}
use Prim.Native.Nat.{ℕ, min}
use native.Mathlib.Omega.{arith}
use native.Mathlib.Decide.{dec_lt}
use mathlib.Core.List.{List}
use lib.ListN.{length, get_or, get_or-eq_default}
use Rattle.fields.specs.Bytes.{num_at}
use Rattle.fields.proofs.Numbers.{num_past}

-- the same number stands at two places that differ only past the end
pub num_level : (k a b : ℕ) (l : List ℕ) → min a (length l) ≡ min b (length l) → num_at k a l ≡ num_at k b l
num_level k a b l h =
    elim (dec_lt a (length l)) [
      | yes z ↦ let e : a ≡ b = omega arith in rw e
      | no z ↦ num_past k a l (omega arith) ∙ sym (num_past k b l (omega arith))
    ]

-- and the same byte
pub byte_level : (a b : ℕ) (l : List ℕ) → min a (length l) ≡ min b (length l) → get_or l a 0 ≡ get_or l b 0
byte_level a b l h =
    elim (dec_lt a (length l)) [
      | yes z ↦ let e : a ≡ b = omega arith in rw e
      | no z ↦ get_or-eq_default l 0 {n = a} (omega arith) ∙ sym (get_or-eq_default l 0 {n = b} (omega arith))
    ]
