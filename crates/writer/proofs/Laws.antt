-- What a write that passes leaves: a plan that reads back as it was given and passes the audit, unlike any other's; and one answer for each input.
-- Assumes nothing.
use mathlib.Core.Path.{◌≡◌, sym, ◌∙◌, ap}
use Prim.Native.Nat.{ℕ, ◌≤◌}
use native.Mathlib.Omega.{arith}
use mathlib.Core.List.{List, [], ◌++◌, append-nil}
use lib.ListN.{length, take, drop, drop_of_length-le}
use lib.Seq.{take_at, drop_at}
use borrow.Author.Tests.{eq-eqb}
use Rattle.std.specs.Prelude.{Result, Ok}
use Rattle.model.specs.declared.Refusal.{Refusal}
use Rattle.model.proofs.Refusals.{next_passes, answer_fine, answered_unique}
use Rattle.fields.proofs.Bytes.{AllBytes}
use Rattle.model.specs.Refusals.{passes, fine}
use Rattle.model.proofs.Links.{length-listed}
use Rattle.trace.specs.TraceFile.{requests_at, trace_tried}
use Rattle.trace.proofs.Sound.{sound_trace}
use Rattle.plan.specs.PlanFile.{shape_of, length_of, stated_at, rents_part, rent_in, rents_at, plan_tried, section_tried, flags_of, plan_bytes}
use Rattle.plan.proofs.Sections.{section_sound}
use Rattle.plan.proofs.Sound.{rents_sound}
use Rattle.plan.proofs.Standing.{is_bytes}
use Rattle.plan.proofs.Written.{Fits, plan_length, read_back, bytes_differ}
use Rattle.replay.proofs.Laws.{totals_within}
use Rattle.audit.specs.Audit.{plan_flags, plan_rents, plan_cost, audit_tried}
use Rattle.audit.proofs.Parts.{flags_count}
use Rattle.audit.proofs.Laws.{Audits, audit_passes}
use Rattle.writer.specs.Write.{written_cost, write_tried, write_of, buffer_of}
use Rattle.writer.specs.Promise.{Wrote}
use Rattle.writer.proofs.Answered.{Writes, write_passes, writes_pass}

-- the plan that stands in a buffer for a trace: its first 16 + 5n bytes
abbrev pub plan_in : (trace buffer : List ℕ) → List ℕ
plan_in tr buffer = take (length_of (shape_of (requests_at tr))) buffer

-- ---- what is written is read back

-- a plan for a trace that reads back as these flags, these rents and this cost
pub record ReadsBack (tr flags rents : List ℕ) (cost : ℕ) (pl : List ℕ) : Type 0 where
  pub tried : section_tried tr pl ≡ passes
  pub flags_read : flags_of tr pl ≡ flags
  pub rents_read : rents_at (shape_of (requests_at tr)) pl ≡ rents
  pub stated : stated_at pl ≡ cost

-- a plan that passes the audit at this cost
pub record PassesAudit (tr pl : List ℕ) (cost : ℕ) : Type 0 where
  pub tried : audit_tried tr pl ≡ passes
  pub stated : stated_at pl ≡ cost
  pub replayed : plan_cost tr pl ≡ cost

module _ (tr flags rents buffer : List ℕ) (h : write_tried tr flags rents (length buffer) ≡ passes) where
  writes : Writes tr flags rents (length buffer)
  writes = write_passes tr flags rents (length buffer) h

  fits : Fits (requests_at tr) (written_cost tr flags) flags rents
  fits = record {
    few = omega (arith, (sound_trace tr writes.trace).requests);
    flags_long = writes.flags_count;
    rents_long = writes.rents_count;
    cost_small = omega (arith, (totals_within tr flags writes.trace).total);
    rents_small = λ i. omega (arith, rents_sound 0 rents writes.low i);
  }

  -- there are 16 + 5n of them
  long : length (plan_bytes (written_cost tr flags) flags rents) ≡ length_of (shape_of (requests_at tr))
  long = omega (arith, plan_length (written_cost tr flags) flags rents, writes.flags_count, writes.rents_count)

  -- the bytes from the buffer's start are the plan's
  pub plan_stands : plan_in tr (buffer_of tr flags rents buffer) ≡ plan_bytes (written_cost tr flags) flags rents
  plan_stands =
      let bytes = plan_bytes (written_cost tr flags) flags rents in
      rw h (take_at bytes (drop (length bytes) buffer) (length_of (shape_of (requests_at tr))) long)

  -- and the rest is as it was
  pub rest_kept : drop (length_of (shape_of (requests_at tr))) (buffer_of tr flags rents buffer) ≡ drop (length_of (shape_of (requests_at tr))) buffer
  rest_kept =
      let bytes = plan_bytes (written_cost tr flags) flags rents in
      rw h (drop_at bytes (drop (length bytes) buffer) (length_of (shape_of (requests_at tr))) long ∙ ap (λ (k : ℕ). drop k buffer) long)

  pub written_reads_back : ReadsBack tr flags rents (written_cost tr flags) (plan_in tr (buffer_of tr flags rents buffer))
  unfolding section_tried
  written_reads_back =
      let k = read_back fits in
      rw plan_stands record {
        tried = rw writes.trace k.tried;
        flags_read = rw (writes.trace, k.tried) k.flags_kept;
        rents_read = k.rents_read;
        stated = k.stated;
      }

  pub written_passes_audit : PassesAudit tr (plan_in tr (buffer_of tr flags rents buffer)) (written_cost tr flags)
  unfolding section_tried audit_tried
  written_passes_audit =
      let k = read_back fits in
      rw plan_stands record {
        tried = rw (writes.trace, k.tried, k.flags_kept, writes.rows, k.rents_read, eq-eqb (stated_at (plan_bytes (written_cost tr flags) flags rents)) (written_cost tr flags) k.stated) writes.low;
        stated = k.stated;
        replayed = rw k.flags_kept;
      }

-- the same of what the promise permits, at the cost that is answered
module _ {tr flags rents buffer buffer' : List ℕ} {cost : ℕ} (w : Wrote tr flags rents buffer (Ok cost) buffer') where
  pub answered_reads_back : ReadsBack tr flags rents cost (plan_in tr buffer')
  answered_reads_back =
      let a = answer_fine (write_tried tr flags rents (length buffer)) (written_cost tr flags) cost w.answer in
      rw (w.held, a.1) (written_reads_back tr flags rents buffer a.0)

  pub answered_passes_audit : PassesAudit tr (plan_in tr buffer') cost
  answered_passes_audit =
      let a = answer_fine (write_tried tr flags rents (length buffer)) (written_cost tr flags) cost w.answer in
      rw (w.held, a.1) (written_passes_audit tr flags rents buffer a.0)

-- ---- no two plans share their bytes

-- equal bytes are of equal flags, rents and costs, also for two traces
pub different_plans_differ : (tr flags rents buffer tr' flags' rents' buffer' : List ℕ)
    → write_tried tr flags rents (length buffer) ≡ passes
    → write_tried tr' flags' rents' (length buffer') ≡ passes
    → plan_in tr (buffer_of tr flags rents buffer) ≡ plan_in tr' (buffer_of tr' flags' rents' buffer')
    → (written_cost tr flags ≡ written_cost tr' flags') × (flags ≡ flags') × (rents ≡ rents')
different_plans_differ tr flags rents buffer tr' flags' rents' buffer' h g e =
    bytes_differ (fits tr flags rents buffer h) (fits tr' flags' rents' buffer' g)
    (sym (plan_stands tr flags rents buffer h) ∙ e ∙ plan_stands tr' flags' rents' buffer' g)

-- nor, for one trace, do two buffers that hold them
pub different_buffers_differ : (tr flags rents buffer flags' rents' buffer' : List ℕ)
    → write_tried tr flags rents (length buffer) ≡ passes
    → write_tried tr flags' rents' (length buffer') ≡ passes
    → buffer_of tr flags rents buffer ≡ buffer_of tr flags' rents' buffer'
    → (flags ≡ flags') × (rents ≡ rents')
different_buffers_differ tr flags rents buffer flags' rents' buffer' h g e =
    let same = different_plans_differ tr flags rents buffer tr flags' rents' buffer' h g (ap (plan_in tr) e) in (same.1, same.2)

-- ---- a sound plan is written again

module _ (tr pl : List ℕ) (sound : audit_tried tr pl ≡ passes) where
  audits : Audits tr pl
  audits = audit_passes tr pl sound

  -- rows 1 to 8, and rows 9 to 12
  ranges : (trace_tried tr ≡ passes) × (plan_tried (requests_at tr) pl ≡ passes)
  unfolding section_tried
  ranges = next_passes (trace_tried tr) (plan_tried (requests_at tr) pl) audits.section

  -- its flags and rents can be written wherever it fits
  pub sound_plan_writes : (room : ℕ) → length pl ≤ room → write_tried tr (plan_flags tr pl) (plan_rents tr pl) room ≡ passes
  sound_plan_writes room h =
      let n = requests_at tr in
      let long = (section_sound tr pl audits.section).long in
      writes_pass tr (plan_flags tr pl) (plan_rents tr pl) room record {
        trace = ranges.0;
        flags_count = flags_count tr pl audits.section;
        rents_count = length-listed (rent_in (rents_part (shape_of n) pl)) n 0;
        rows = audits.flags;
        low = audits.rents;
        long = omega (arith, long);
      }

  -- and then the buffer begins with its bytes
  pub written_over : (buffer : List ℕ) → AllBytes pl → length pl ≤ length buffer
      → buffer_of tr (plan_flags tr pl) (plan_rents tr pl) buffer ≡ pl ++ drop (length pl) buffer
  written_over buffer b h =
      let flags = plan_flags tr pl in
      let rents = plan_rents tr pl in
      let same : pl ≡ plan_bytes (stated_at pl) flags rents = is_bytes (requests_at tr) pl b ranges.1 in
      let costs : plan_bytes (stated_at pl) flags rents ≡ plan_bytes (plan_cost tr pl) flags rents = ap (λ (c : ℕ). plan_bytes c flags rents) audits.stated in
      rw (sound_plan_writes (length buffer) h) (ap (λ (l : List ℕ). l ++ drop (length l) buffer) (sym (same ∙ costs)))

  -- into a buffer of its length it is written again
  pub written_again : (buffer : List ℕ) → AllBytes pl → length buffer ≡ length pl
      → (write_of tr (plan_flags tr pl) (plan_rents tr pl) (length buffer) ≡ fine (stated_at pl)) × (buffer_of tr (plan_flags tr pl) (plan_rents tr pl) buffer ≡ pl)
  written_again buffer b h =
      let le : length pl ≤ length buffer = omega arith in
      let none : drop (length pl) buffer ≡ [] = drop_of_length-le buffer {i = length pl} (omega arith) in
      (rw (sound_plan_writes (length buffer) le) (ap fine (sym audits.stated)), written_over buffer b le ∙ rw (none, append-nil))

-- ---- one answer

-- what the promise permits is one answer and one buffer
pub write_unique : (tr flags rents buffer : List ℕ) (a b : Result ℕ Refusal) (x y : List ℕ)
    → Wrote tr flags rents buffer a x → Wrote tr flags rents buffer b y → (a ≡ b) × (x ≡ y)
write_unique tr flags rents buffer a b x y p q =
    (answered_unique a b (write_of tr flags rents (length buffer)) p.answer q.answer, p.held ∙ sym q.held)
