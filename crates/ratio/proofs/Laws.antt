-- Laws of the gap ratio: its promise leaves one answer, and no cost within the limit is rounded on its way to a float.
use mathlib.Core.Path.{◌≡◌}
use Prim.Native.Nat.{ℕ, ◌≤◌, ◌^◌}
use mathlib.Core.Bool.{false}
use native.Mathlib.Omega.{arith}
use lib.Dec.{le→leb}
use lib.Ieee.{binary64, in_float, of_int, to_unsigned}
use lib.Ieee.Exact.{HasValue}
use lib.Ieee.Back.{round_whole, unsigned_back}
use Rattle.model.specs.Numbers.{max_plan_cost}
use Rattle.std.specs.Prelude.{Result}
use Rattle.model.specs.Refusals.{answered}
use Rattle.model.specs.declared.Refusal.{Refusal}
use Rattle.model.proofs.Refusals.{answered_unique}
use Rattle.ratio.specs.Ratio.{as_float, ratio_of}
use Rattle.ratio.specs.declared.Gap.{Gap}

-- any two permitted answers coincide
pub ratio_unique : (least measured : ℕ) (a b : Result Gap Refusal) → answered a ≡ ratio_of least measured → answered b ≡ ratio_of least measured → a ≡ b
ratio_unique least measured a b p q = answered_unique a b (ratio_of least measured) p q

-- a cost as a float, when nothing is lost: the float is exactly c / 1 and not negative, and going back gives c
pub record Exactly (c : ℕ) : Type 0 where
  pub value : HasValue (as_float c) false c 1
  pub back : to_unsigned 64 (as_float c) ≡ c

-- no cost up to 2,048,000,000 is rounded
pub no_loss : (c : ℕ) → c ≤ max_plan_cost → Exactly c
unfolding in_float of_int
no_loss c h =
    let k : c ≤ 2 ^ 53 = omega arith in
    record { value = round_whole binary64 false c k; back = (unsigned_back binary64 64 c (le→leb c (2 ^ 53) k) (omega arith)).1 }
