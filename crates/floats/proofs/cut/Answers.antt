use mathlib.Core.Path.{sym, ◌∙◌, subst}
use lib.Dec.{T}
use lib.Ieee.{binary64, fits, of_bits}
use Rattle.floats.proofs.Patterns.{Within, within, bits}
use Rattle.floats.proofs.Value.{too_small, too_large, by_bits}
use Rattle.floats.proofs.cut.Goals as goal
use Rattle.floats.proofs.cut.Goals.{Start, Then-x-2, else-x-via-then-x+else-x-2, else-x-via-else-x}

-- what owning a float tells: the format holds it
held : (c : Start) → T (fits binary64 c.args.x)
held c = subst T (sym c.well_formed.0.1) tt

inside : (c : Then-x-2) → Within c.args.x
unfolding of_bits
inside c = within _ c.if-x.true c.if-x-2.true

pub of_bits-requires : goal.of_bits-requires
of_bits-requires c =
    let b = bits _ (held (goal.at.of_bits-requires c).Start) (inside (goal.at.of_bits-requires c).Then-x-2) in
    (b.lowest, b.highest)

pub returns-then-x-2 : goal.returns-then-x-2
unfolding of_bits
returns-then-x-2 c = c.of_bits.ensures ∙ by_bits _ (held (goal.at.returns-then-x-2 c).Start) c.if-x.true c.if-x-2.true

pub returns : goal.returns
unfolding of_bits
returns c =
    elim c.else-x.branch [
      | else-x-via-then-x+else-x-2 w ↦ too_large _ w.if-x.true w.if-x-2.false
      | else-x-via-else-x w ↦ too_small _ w.if-x.false
    ]
