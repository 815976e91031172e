-- From slots laid to an accepted plan in the buffer. Assumes nothing.
use mathlib.Core.Path.{◌≡◌, refl, ◌∙◌}
use Prim.Native.Nat.{ℕ, zero, suc, ◌≤◌, ◌<◌}
use native.Mathlib.Omega.{arith}
use native.Mathlib.Decide.{dec_lt}
use mathlib.Core.Bool.{false}
use mathlib.Core.List.{List}
use Rattle.std.proofs.Common.{Result}
use lib.ListN.{length, get_or, take, get_or-eq_default}
use lib.Seq.{get_or-take, length-take-le}
use Rattle.model.specs.Numbers.{max_rent}
use Rattle.model.specs.Plans.{flags_in, rents_in}
use Rattle.model.specs.Refusals.{passes, fine}
use Rattle.model.specs.declared.Refusal.{Refusal}
use Rattle.trace.specs.TraceFile.{slots_at, trace_in}
use Rattle.trace.proofs.Sound.{reqs_length}
use Rattle.plan.proofs.Sound.{sound_rents}
use Rattle.plan.proofs.Written.{plan_length}
use Rattle.replay.proofs.Laws.{sound_flags_pass}
use Rattle.network.specs.Sound.{count}
use Rattle.network.proofs.Exists.{Proving}
use Rattle.network.proofs.Held.{flag_past}
use Rattle.network.proofs.Same.{sound_same}
use Rattle.network.proofs.Solved.{sound_solved}
use Rattle.writer.specs.Write as write
use Rattle.writer.specs.Promise.{Wrote}
use Rattle.writer.proofs.Answered.{writes_pass}
use Rattle.exists.proofs.Accepted.{values_pass, flags_cost, plan_of, proving_accepted}
use Rattle.worths.specs.Worths.{Rented}
use Rattle.steps.specs.Lists.{points_in, requests_in}
use Rattle.steps.specs.Slots.{Laid, Cheap}
use Rattle.steps.specs.Ready.{Ready}
use Rattle.solver.specs.Solve.{Accepted}
use Rattle.steps.proofs.Laying.{laid_size, laid_few}

-- ---- flags and rents that prove their cost

-- the front of flags that are 0 past it names the same flags
front_flags : (n : ℕ) (flags : List ℕ) → n ≤ length flags → ((t : ℕ) → n ≤ t → flags_in flags (suc t) ≡ false)
    → (t : ℕ) → flags_in flags t ≡ flags_in (take n flags) t
front_flags n flags l past zero = refl
front_flags n flags l past (suc t) =
    elim (dec_lt t n) [
      | yes y ↦ rw (get_or-take n flags t 0 y)
      | no y ↦ rw (past t (omega arith), get_or-eq_default (take n flags) 0 {n = t} (omega (arith, length-take-le n flags l)))
    ]

-- a bound of the first n numbers of a list holds of their list
front_top : (n top : ℕ) (l : List ℕ) → n ≤ length l → ((i : ℕ) → i < n → get_or l i 0 ≤ top) → (i : ℕ) → get_or (take n l) i 0 ≤ top
front_top n top l m h i =
    elim (dec_lt i n) [
      | yes y ↦ rw (get_or-take n l i 0 y) (h i y)
      | no y ↦ rw (get_or-eq_default (take n l) 0 {n = i} (omega (arith, length-take-le n l m))) (omega arith)
    ]

-- slots laid, as many as the rules give, with the rents that their worths name, prove their cost
pub laid_proving : {trace : List ℕ} {n fill w : ℕ} {worth flags from charges old prices : List ℕ} → w ≡ slots_at trace
    → Laid trace n fill w worth flags from charges → Cheap n worth → Rented worth n old prices → length prices ≡ 1024
    → Proving (trace_in trace) (take n flags) (take n prices)
laid_proving {trace} {n} {fill} {w} {worth} {flags} {from} {charges} {old} {prices} ew l ch re long =
    let tr = trace_in trace in
    let size = laid_size l in
    let few = laid_few l in
    let fl : n ≤ length flags = omega (arith, l.flags_long) in
    let pl : n ≤ length prices = omega (arith, long) in
    let P = points_in worth in
    let Q = requests_in (count tr) worth in
    let past : (t : ℕ) → n ≤ t → flags_in flags (suc t) ≡ false = λ t m. flag_past tr (flags_in flags) l.fits.sound.linked t (omega (arith, size)) in
    let s = sound_same tr w (flags_in flags) (flags_in (take n flags)) P Q (front_flags n flags fl past) l.fits.sound in
    let k = sound_solved tr (flags_in (take n flags)) P Q (rw ew at s) (rents_in (take n prices))
    (λ g m. get_or-take n prices g 0 (omega (arith, size)) ∙ re.named g (omega (arith, size)) (omega (arith, size))) in
    record {
      flags_long = length-take-le n flags fl ∙ size;
      rents_long = length-take-le n prices pl ∙ size;
      values = front_top n 1 flags fl (λ i m. l.fits.values i);
      limit = front_top n max_rent prices pl (λ i m. omega (arith, re.named i m (omega arith), ch.limit i m));
      sound = k.0;
      proves = k.1;
    }

-- ---- the plan in the buffer

module _ {trace from charges worth buffer flags rents : List ℕ} (r : Ready trace from charges worth buffer) (p : Proving (trace_in trace) flags rents) where
  -- no row holds against flags and rents that prove their cost
  proving_writes : write.write_tried trace flags rents (length buffer) ≡ passes
  proving_writes =
      writes_pass trace flags rents (length buffer)
      (record {
        trace = r.sound;
        flags_count = p.flags_long ∙ reqs_length trace;
        rents_count = p.rents_long ∙ reqs_length trace;
        rows = sound_flags_pass (trace_in trace) flags (values_pass 0 flags p.values) p.sound;
        low = sound_rents 0 rents p.limit;
        long = omega (arith, r.room);
      })

  -- and what the writer writes is accepted at the cost that it answers
  pub proving_laid : {w : Result ℕ Refusal} {buffer' : List ℕ} → Wrote trace flags rents buffer w buffer' → Accepted trace buffer w buffer'
  proving_laid d =
      let written : write.write_of trace flags rents (length buffer) ≡ fine (flags_cost trace flags) = rw proving_writes in
      let long = plan_length (flags_cost trace flags) flags rents in
      record {
        plan = plan_of trace flags rents;
        cost = flags_cost trace flags;
        long = omega (arith, long, p.flags_long, p.rents_long, reqs_length trace);
        accepted = proving_accepted trace flags rents r.sound p;
        answer = d.answer ∙ written;
        laid = d.held ∙ rw proving_writes;
      }
