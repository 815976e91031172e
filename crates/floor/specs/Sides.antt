-- The two sides of the floor, which it is the difference of. Assumes nothing.
use Rattle.std.specs.Prelude.{ℕ, ◌*◌, List}
use Rattle.model.specs.Model.{leasts, rents_all}
use Rattle.model.specs.Plans.{rents_in}
use Rattle.model.specs.Refusals.{Answer, answer}
use Rattle.trace.specs.TraceFile.{trace_in, slots_at}
use Rattle.floor.specs.Floor.{floor_tried}
use Rattle.floor.specs.declared.Pair.{Pair}

-- the least prices added up, and w times the sum of all rents
abbrev pub pair_in : (trace rents : List ℕ) → Pair
pair_in tr rents =
    record { leasts = leasts (trace_in tr) (rents_in rents); taken = slots_at tr * rents_all (trace_in tr) (rents_in rents) }

-- the two sides, with the refusals of the floor
abbrev pub sides_of : (trace rents : List ℕ) → Answer Pair
sides_of tr rents = answer (floor_tried tr rents) (pair_in tr rents)
