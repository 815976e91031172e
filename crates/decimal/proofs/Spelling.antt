-- What std writes for a number is its digits.
use mathlib.Core.Path.{◌≡◌, sym, ◌∙◌, ap}
use Prim.Native.Nat.{ℕ, ◌+◌, ◌*◌, ◌/◌, ◌%◌, ◌<◌}
use native.Mathlib.Omega.{arith}
use mathlib.Core.List.{[], ◌∷◌, ◌++◌}
use Rattle.std.specs.Fmt.{decimal as written}
use Rattle.std.proofs.lemmas.Fmt.{decimal_by_steps}
use Rattle.decimal.specs.Decimal.{spell_by, decimal}
use Rattle.decimal.proofs.Laws.{spell_append, spell_more, spell_one}

-- a number of 64 bits is written as its digits
pub as_written : (x : ℕ) → x < 18446744073709551616 → written x ≡ decimal x
unfolding decimal
as_written x h =
    decimal_by_steps (λ n ds. ds ≡ spell_by n n [])
    (λ n s. sym (spell_one n [] s))
    (λ n ds big e.
    let back : 10 * (n / 10) + n % 10 ≡ n = omega arith in
    let more : spell_by n n [] ≡ spell_by (n / 10) (n / 10) ((48 + n % 10) ∷ [])
    = rw back at (spell_more (n / 10) (n % 10) [] (omega arith) (omega arith)) in
    ap (λ l. l ++ ((48 + n % 10) ∷ [])) e ∙ (spell_append (n / 10) (n / 10) [] ((48 + n % 10) ∷ []) ∙ sym more))
    x h
