-- What reading rents leaves in lent memory. Assumes nothing.
use Rattle.std.specs.Prelude.{ℕ, ◌/◌, List, length}
use Rattle.fields.specs.Bytes.{put_front}
use Rattle.model.specs.Links.{listed}
use Rattle.plan.specs.PlanFile.{rent_in}

-- the list with the rents of a part in its first places, as many as it has places for; the rest is kept
abbrev pub rents_into : (part out : List ℕ) → List ℕ
rents_into part out = put_front (listed (rent_in part) (length part / 4) 0) out
