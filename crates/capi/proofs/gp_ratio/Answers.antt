use Rattle.ratio.specs.Ratio.{gap_of}
use Rattle.capi.proofs.Small.{answered_codable, ratio_small}
use Rattle.capi.proofs.gp_ratio.Goals as goal

pub code-requires : goal.code-requires
code-requires c =
    answered_codable (gap_of c.args.least c.args.measured) (ratio_small c.args.least c.args.measured) c.in-Err.ensures
