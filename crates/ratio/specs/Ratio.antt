-- The gap ratio of a least cost and a measured one. Assumes nothing.
use Rattle.std.specs.Prelude.{ℕ, cond, ◌||◌, eqb, ltb, pos, Float}
use Rattle.std.specs.Float.{binary64}
use Rattle.std.specs.Float.Ieee.{of_int, div}
use Rattle.model.specs.Numbers.{max_plan_cost}
use Rattle.model.specs.Refusals.{Tried, passes, row, Answer, answer}
use Rattle.ratio.specs.declared.Gap.{Gap}
use Rattle.ratio.specs.declared.Gap.TheVariants.{NoCost, NoRatio, Ratio}

-- rows 20 and 21
unfoldable pub ratio_tried : (least measured : ℕ) → Tried
ratio_tried least measured =
    row (ltb max_plan_cost least || ltb max_plan_cost measured) 20 0
    (row (ltb measured least) 21 0
    passes)

-- a cost as a float: no number up to the limit is rounded
abbrev pub as_float : ℕ → Float
as_float c = of_int binary64 (pos c)

-- the three answers: no cost, no ratio, or the measured cost divided by the least, once
abbrev pub gap_of : (least measured : ℕ) → Gap
gap_of least measured =
    cond (eqb least 0)
    (cond (eqb measured 0) NoCost NoRatio)
    (Ratio (div binary64 (as_float measured) (as_float least)))

-- the gap ratio
abbrev pub ratio_of : (least measured : ℕ) → Answer Gap
ratio_of least measured = answer (ratio_tried least measured) (gap_of least measured)
