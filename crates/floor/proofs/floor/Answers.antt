use mathlib.Core.Path.{◌∙◌, ap}
use mir.Syntax.{w64}
use mir.Facts.{to_z-of_z}
use Rattle.std.proofs.lemmas.Result.{err_from_is_err_and}
use Rattle.model.specs.Refusals.{fine}
use Rattle.floor.proofs.Answers.{floor_refused, floor-fine, pair_small}
use Rattle.floor.proofs.floor.Goals as goal

pub less-requires : goal.less-requires
less-requires c = pair_small _ _ _ c.in_ok-pair.ensures

pub returns-in_err-pair : goal.returns-in_err-pair
returns-in_err-pair c =
    let p = err_from_is_err_and c.from_residual.result c.from_residual.ensures.1 in
    rw (p.1, p.2) (floor_refused _ _ _ _ c.in_err-pair.ensures)

pub returns : goal.returns
returns c =
    ap fine (to_z-of_z {w = w64} {z = c.less.result} (record { sfits = c.less.type_inv }) ∙ c.less.ensures)
    ∙ floor-fine _ _ _ c.in_ok-pair.ensures
