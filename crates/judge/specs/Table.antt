-- Document 01's table: each row's trace, flags and rents, and what must be answered. The bytes are those of the file formats. Assumes nothing.
use Rattle.std.specs.Prelude.{◌≡◌, ℕ, true, false, List, [], ◌∷◌, pos}
use Rattle.model.specs.Model.{Request, Trace, cost}
use Rattle.model.specs.Refusals.{fine, refused}
use Rattle.trace.specs.TraceFile.{trace_bytes}
use Rattle.plan.specs.PlanFile.{plan_bytes}
use Rattle.replay.specs.Replay.{named}
use Rattle.floor.specs.Floor.{floor_of}
use Rattle.judge.specs.Judge.{judge_of}

-- ---- what a row says

-- what must be answered: accepted at a cost, refused with number and place, or a floor and then refusal 18
pub data Verdict : Type 0 where
  accepted : (cost : ℕ) → Verdict
  refusal : (number place : ℕ) → Verdict
  short : (floor : ℕ) → Verdict

-- a row of the table
pub record Row : Type 0 where
  pub trace : Trace
  pub flags : List ℕ
  pub rents : List ℕ
  pub verdict : Verdict

-- the bytes of its trace
abbrev pub trace_of : Row → List ℕ
trace_of r = trace_bytes r.trace

-- the bytes of its plan: the stated cost is that of the contents that the flags name
abbrev pub plan_of : Row → List ℕ
plan_of r = plan_bytes (cost r.trace (named r.trace r.flags)) r.flags r.rents

-- these bytes are answered so
abbrev pub Answers : Verdict → (trace plan rents : List ℕ) → Type 0
Answers (accepted c) tr pl rents = judge_of tr pl ≡ fine c
Answers (refusal n p) tr pl rents = judge_of tr pl ≡ refused n p
Answers (short f) tr pl rents = (floor_of tr rents ≡ fine (pos f)) × (judge_of tr pl ≡ refused 18 0)

-- the row is right
abbrev pub Right : Row → Type 0
Right r = Answers r.verdict (trace_of r) (plan_of r) r.rents

-- every row is right
abbrev pub AllRight : List Row → Type 0
AllRight [] = Unit {0}
AllRight (r ∷ rs) = Right r × AllRight rs

-- ---- the traces

-- a read
abbrev pub read : (item cost : ℕ) → Request
read i c = record { write = false; item = i; cost = c }

-- a write
abbrev pub write : (item cost : ℕ) → Request
write i c = record { write = true; item = i; cost = c }

-- trace A: reads of items a b c a a b, each cost 10
abbrev pub A : (slots fill : ℕ) → Trace
A w f = record {
  rules = record { slots = w; fill = f };
  reqs = read 1 10 ∷ read 2 10 ∷ read 3 10 ∷ read 1 10 ∷ read 1 10 ∷ read 2 10 ∷ [];
}

-- trace B: read cost 10, write cost k, read cost 10, all of one item, F = 2, w = 1
abbrev pub B : (k : ℕ) → Trace
B k = record { rules = record { slots = 1; fill = 2 }; reqs = read 7 10 ∷ write 7 k ∷ read 7 10 ∷ [] }

-- no requests and no slots
abbrev pub nothing : Trace
nothing = record { rules = record { slots = 0; fill = 0 }; reqs = [] }

-- ---- the rows

-- six numbers that are the same
abbrev pub six : ℕ → List ℕ
six p = p ∷ p ∷ p ∷ p ∷ p ∷ p ∷ []

-- three that are 0, as flags or as rents
abbrev pub none : List ℕ
none = 0 ∷ 0 ∷ 0 ∷ []

-- flags 110100: a and b are kept
abbrev pub keep_both : List ℕ
keep_both = 1 ∷ 1 ∷ 0 ∷ 1 ∷ 0 ∷ 0 ∷ []

-- flags 100100: a alone is kept
abbrev pub keep_one : List ℕ
keep_one = 1 ∷ 0 ∷ 0 ∷ 1 ∷ 0 ∷ 0 ∷ []

-- a row from its four parts
abbrev pub line : Trace → (flags rents : List ℕ) → Verdict → Row
line tr flags rents v = record { trace = tr; flags = flags; rents = rents; verdict = v }

-- two slots hold a and b
abbrev pub A2 : Row
A2 = line (A 2 4) keep_both (six 0) (accepted 38)

-- one slot, and a rent where it is wanted twice
abbrev pub A1 : Row
A1 = line (A 1 4) keep_one (0 ∷ 6 ∷ 0 ∷ 0 ∷ 0 ∷ 0 ∷ []) (accepted 44)

-- no slots, and every rent at its limit
abbrev pub A0 : Row
A0 = line (A 0 4) (six 0) (six 2000000) (accepted 60)

-- A1 with rents 0
abbrev pub A1z : Row
A1z = line (A 1 4) keep_one (six 0) (short 38)

-- A1 with its rent at a gap that nothing wants
abbrev pub A1e : Row
A1e = line (A 1 4) keep_one (0 ∷ 0 ∷ 0 ∷ 0 ∷ 6 ∷ 0 ∷ []) (short 38)

-- A1 with a in gap 2 beside b
abbrev pub A1f : Row
A1f = line (A 1 4) keep_both (six 0) (refusal 15 2)

-- A2 with a flag at b's last request
abbrev pub A2l : Row
A2l = line (A 2 4) (1 ∷ 1 ∷ 0 ∷ 1 ∷ 0 ∷ 1 ∷ []) (six 0) (refusal 14 6)

-- fill price 10: keeping b saves nothing
abbrev pub T : (flags : List ℕ) → Row
T flags = line (A 2 10) flags (six 0) (accepted 50)

-- a write hit at 7 is worth keeping
abbrev pub B7 : Row
B7 = line (B 7) (1 ∷ 1 ∷ 0 ∷ []) none (accepted 19)

-- at 8 it is as good as not
abbrev pub B8 : (flags : List ℕ) → Row
B8 flags = line (B 8) flags none (accepted 20)

-- at 9 it is not worth it, though a slot is free
abbrev pub B9 : Row
B9 = line (B 9) none none (accepted 20)

-- the empty trace
abbrev pub E : Row
E = line nothing [] [] (accepted 0)

-- document 01's table
abbrev pub rows : List Row
rows =
    A2 ∷ A1 ∷ A0 ∷ A1z ∷ A1e ∷ A1f ∷ A2l ∷ T keep_both ∷ T keep_one
    ∷ B7 ∷ B8 (1 ∷ 1 ∷ 0 ∷ []) ∷ B8 none ∷ B9 ∷ E ∷ []
