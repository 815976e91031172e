-- Plan files of document 01: their shape, the rows 9 to 12, the parts, row 17, and the bytes of a plan. Assumes nothing.
use Rattle.std.specs.Prelude.{ℕ, suc, ◌+◌, ◌*◌, Bool, ◌&&◌, not, List, [], ◌∷◌, ◌++◌, length, get_or, take, drop, eqb, ltb}
use Rattle.fields.specs.Bytes.{num_at, bytes_of, bytes_of_all, stand_at}
use Rattle.model.specs.Links.{listed}
use Rattle.model.specs.Numbers.{max_rent}
use Rattle.model.specs.Refusals.{Tried, passes, refusal, row, next}
use Rattle.trace.specs.TraceFile.{requests_at, trace_tried}

-- ---- the shape of a plan

-- how long the head is, and how many flags and rents follow it
pub record Shape : Type 0 where
  pub head : ℕ
  pub flags : ℕ
  pub rents : ℕ

-- the shape of a plan for n requests
abbrev pub shape_of : (n : ℕ) → Shape
shape_of n = record { head = 16; flags = n; rents = n }

-- how long the whole file is: a byte to a flag, four to a rent
abbrev pub length_of : Shape → ℕ
length_of sh = sh.head + sh.flags + 4 * sh.rents

-- ---- the parts of a plan

-- the stated cost, in eight bytes
abbrev pub stated_at : List ℕ → ℕ
stated_at pl = num_at 8 8 pl

-- the part that holds the flags
abbrev pub flags_part : Shape → List ℕ → List ℕ
flags_part sh pl = take sh.flags (drop sh.head pl)

-- the part that holds the rents
abbrev pub rents_part : Shape → List ℕ → List ℕ
rents_part sh pl = take (4 * sh.rents) (drop (sh.head + sh.flags) pl)

-- rent t of a rents' part, counted from 0
abbrev pub rent_in : List ℕ → (t : ℕ) → ℕ
rent_in part t = num_at 4 (4 * t) part

-- the rents as numbers
abbrev pub rents_at : Shape → List ℕ → List ℕ
rents_at sh pl = listed (rent_in (rents_part sh pl)) sh.rents 0

-- ---- rows 9 to 12, and 17

-- the mark `CPL`, version 1 in two bytes, and a zero byte
abbrev pub marked_plan : List ℕ → Bool
marked_plan pl = stand_at (67 ∷ 80 ∷ 76 ∷ []) 0 pl && (eqb (num_at 2 3 pl) 1 && eqb (get_or pl 5 0) 0)

-- rows 9 to 12, against a trace of n requests
unfoldable pub plan_tried : (n : ℕ) → List ℕ → Tried
plan_tried n pl =
    row (ltb (length pl) 16) 9 0
    (row (not (marked_plan pl)) 10 0
    (row (not (eqb (num_at 2 6 pl) n)) 11 0
    (row (not (eqb (length pl) (length_of (shape_of n)))) 12 0
    passes)))

-- rows 1 to 12, of a trace and a plan
unfoldable pub section_tried : (trace plan : List ℕ) → Tried
section_tried tr pl = next (trace_tried tr) (plan_tried (requests_at tr) pl)

-- row 17, for the rents of the gaps after gap t
abbrev pub rents_tried : (t : ℕ) → List ℕ → Tried
rents_tried t [] = passes
rents_tried t (p ∷ ps) = row (ltb max_rent p) 17 (suc t) (rents_tried (suc t) ps)

-- ---- sections

-- the part if no row holds, else the empty part
abbrev pub part_of : Tried → List ℕ → List ℕ
part_of passes part = part
part_of (refusal number place) part = []

-- the flags of a plan for a trace
abbrev pub flags_of : (trace plan : List ℕ) → List ℕ
flags_of tr pl = part_of (section_tried tr pl) (flags_part (shape_of (requests_at tr)) pl)

-- the bytes of its rents
abbrev pub rents_of : (trace plan : List ℕ) → List ℕ
rents_of tr pl = part_of (section_tried tr pl) (rents_part (shape_of (requests_at tr)) pl)

-- ---- the bytes of a plan

-- a plan's bytes from its cost, its flags and its rents
unfoldable pub plan_bytes : (cost : ℕ) → (flags rents : List ℕ) → List ℕ
plan_bytes cost flags rents =
    67 ∷ 80 ∷ 76 ∷ bytes_of 2 1 ++ 0 ∷ bytes_of 2 (length flags) ++ bytes_of 8 cost ++ flags ++ bytes_of_all 4 rents
