-- What a gap ratio that is not refused says of its two costs, and some pages.
use mathlib.Core.Path.{◌≡◌, refl}
use Prim.Native.Nat.{ℕ, zero, suc, ◌≤◌, ◌<◌}
use native.Mathlib.Omega.{arith}
use mathlib.Core.Bool.{Bool, true, false, cond, ◌||◌}
use lib.Dec.{eqb, ltb}
use lib.Ieee.{Float, of_int, div, le, lt}
use borrow.Author.Tests.{ltb-false}
use Rattle.model.specs.Numbers.{max_plan_cost}
use Rattle.model.specs.Refusals.{Tried, passes, row, fine}
use Rattle.model.proofs.Refusals.{answer_fine}
use Rattle.ratio.specs.Ratio.{ratio_tried, gap_of, ratio_of}
use Rattle.ratio.specs.declared.Gap.TheVariants.{NoCost, NoRatio, Ratio}
use Rattle.pages.specs.Letters.{letters}
use Rattle.decimal.specs.Decimal.{decimal}
use Rattle.sentences.specs.Spelled.{shown_of, sign_of, spelled}
use Rattle.sentences.specs.Sentences.{answer_page}
use Rattle.answers.specs.Answers.{gap_page}

-- a least cost of 0 has no quotient
no_quotient : (measured : ℕ) (q : Float) → Ratio q ≡ cond (eqb measured 0) NoCost NoRatio → ⊥
no_quotient measured q e = by (eqb measured 0) e
  where
    by : (b : Bool) → Ratio q ≡ cond b NoCost NoRatio → ⊥
    by true h = let z : ◌≡◌ {A = ℕ} 0 1 = cc in absurd (omega arith)
    by false h = let z : ◌≡◌ {A = ℕ} 0 1 = cc in absurd (omega arith)

some_least : (least measured : ℕ) (q : Float) → Ratio q ≡ gap_of least measured → 0 < least
some_least zero measured q e = absurd (no_quotient measured q e)
some_least (suc least) measured q e = omega arith

first_row : (s t : Bool) (rest : Tried) → row (s || t) 20 0 rest ≡ passes → s ≡ false
first_row true t rest e = absurd (let z : ◌≡◌ {A = ℕ} 0 1 = cc in omega arith)
first_row false t rest e = refl

-- a quotient has a least cost above 0 and within the limit
pub quotient_least : (least measured : ℕ) (q : Float) → fine (Ratio q) ≡ ratio_of least measured → (0 < least) × (least ≤ max_plan_cost)
unfolding ratio_tried
quotient_least least measured q e =
    let k = answer_fine (ratio_tried least measured) (gap_of least measured) (Ratio q) e in
    (some_least least measured q k.1, ltb-false max_plan_cost least (first_row (ltb max_plan_cost least) (ltb max_plan_cost measured) _ k.0))

-- used on cases: 176 by 44, and 17 by 10, whose float lies a little below 1.7
four : answer_page 0 (gap_page 44 176) (ratio_of 44 176) ≡ letters "ratio 4.000000\nf64 4.0000000000000000\n"
unfolding ratio_tried div of_int le lt spelled sign_of shown_of decimal
four = refl
