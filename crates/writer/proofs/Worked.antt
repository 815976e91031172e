-- The laws of writing at work on document 01's own trace and plan: flags 110, rents 0, cost 19. Assumes nothing.
use mathlib.Core.Path.{◌≡◌, refl}
use Prim.Native.Nat.{ℕ, zero, suc}
use native.Mathlib.Omega.{arith}
use mathlib.Core.Bool.{Bool, true, ◌&&◌}
use mathlib.Core.List.{List, [], ◌∷◌, ◌++◌}
use lib.Dec.{ltb}
use lib.ListN.{length, drop}
use borrow.Author.Tests.{ltb-true}
use Rattle.model.proofs.Refusals.{both_true}
use Rattle.fields.specs.Bytes.{num_at}
use Rattle.fields.proofs.Bytes.{AllBytes}
use Rattle.model.specs.Model.{cost}
use Rattle.model.specs.Refusals.{passes, fine}
use Rattle.trace.specs.TraceFile.{trace_tried}
use Rattle.trace.proofs.Example.{example_bytes}
use Rattle.plan.specs.PlanFile.{plan_tried, section_tried}
use Rattle.replay.specs.Replay.{flags_tried}
use Rattle.audit.specs.Audit.{audit_tried}
use Rattle.writer.specs.Write.{write_tried, write_of, buffer_of}
use Rattle.writer.proofs.Laws.{plan_in, ReadsBack, PassesAudit, written_reads_back, written_passes_audit, rest_kept, written_again, different_buffers_differ}

-- the plan, as the document has it
abbrev file : List ℕ
file =
    0x43 ∷ 0x50 ∷ 0x4C ∷ 0x01 ∷ 0x00 ∷ 0x00 ∷ 0x03 ∷ 0x00 ∷ 0x13 ∷ 0x00 ∷ 0x00 ∷ 0x00 ∷ 0x00 ∷ 0x00 ∷ 0x00 ∷ 0x00
    ∷ 0x01 ∷ 0x01 ∷ 0x00
    ∷ 0x00 ∷ 0x00 ∷ 0x00 ∷ 0x00 ∷ 0x00 ∷ 0x00 ∷ 0x00 ∷ 0x00 ∷ 0x00 ∷ 0x00 ∷ 0x00 ∷ 0x00
    ∷ []

-- its flags, others, and the rents
abbrev keeps : List ℕ
keeps = 1 ∷ 1 ∷ 0 ∷ []

abbrev passes_by : List ℕ
passes_by = 0 ∷ 0 ∷ 0 ∷ []

abbrev free : List ℕ
free = 0 ∷ 0 ∷ 0 ∷ []

-- a buffer of the plan's length, and two bytes more
abbrev exact : List ℕ
exact =
    9 ∷ 9 ∷ 9 ∷ 9 ∷ 9 ∷ 9 ∷ 9 ∷ 9 ∷ 9 ∷ 9 ∷ 9 ∷ 9 ∷ 9 ∷ 9 ∷ 9 ∷ 9 ∷ 9 ∷ 9 ∷ 9 ∷ 9 ∷ 9 ∷ 9 ∷ 9 ∷ 9 ∷ 9 ∷ 9 ∷ 9 ∷ 9 ∷ 9 ∷ 9 ∷ 9 ∷ []

abbrev buffer : List ℕ
buffer = exact ++ (8 ∷ 7 ∷ [])

-- whether every element is a byte
abbrev all_bytes : List ℕ → Bool
all_bytes [] = true
all_bytes (x ∷ l) = ltb x 256 && all_bytes l

all_bytes_lem : (l : List ℕ) → all_bytes l ≡ true → AllBytes l
all_bytes_lem [] h i = omega arith
all_bytes_lem (x ∷ l) h zero = ltb-true x 256 (both_true (ltb x 256) (all_bytes l) h).0
all_bytes_lem (x ∷ l) h (suc i) = all_bytes_lem l (both_true (ltb x 256) (all_bytes l) h).1 i

-- ---- the plan is sound, and is written again

sound : audit_tried example_bytes file ≡ passes
unfolding audit_tried section_tried trace_tried plan_tried flags_tried num_at cost
sound = refl

pub again : (write_of example_bytes keeps free (length exact) ≡ fine 19) × (buffer_of example_bytes keeps free exact ≡ file)
unfolding num_at
again = written_again example_bytes file sound exact (all_bytes_lem file refl) refl

-- ---- what is written is read back

tried : write_tried example_bytes keeps free (length buffer) ≡ passes
unfolding write_tried trace_tried flags_tried num_at
tried = refl

pub reads : ReadsBack example_bytes keeps free 19 (plan_in example_bytes (buffer_of example_bytes keeps free buffer))
unfolding num_at cost
reads = written_reads_back example_bytes keeps free buffer tried

pub audited : PassesAudit example_bytes (plan_in example_bytes (buffer_of example_bytes keeps free buffer)) 19
unfolding num_at cost
audited = written_passes_audit example_bytes keeps free buffer tried

pub kept : drop 31 (buffer_of example_bytes keeps free buffer) ≡ 8 ∷ 7 ∷ []
unfolding num_at
kept = rest_kept example_bytes keeps free buffer tried

-- ---- and nothing else is written so

other : write_tried example_bytes passes_by free (length buffer) ≡ passes
unfolding write_tried trace_tried flags_tried num_at
other = refl

pub apart : buffer_of example_bytes keeps free buffer ≡ buffer_of example_bytes passes_by free buffer → ⊥
apart e =
    let same = (different_buffers_differ example_bytes keeps free buffer passes_by free buffer tried other e).0 in
    let z : ◌≡◌ {A = ℕ} 1 0 = cc in
    omega arith
