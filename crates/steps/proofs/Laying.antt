-- Laying slots from none on. Assumes nothing.
use mathlib.Core.Path.{◌≡◌, refl, sym, ◌∙◌}
use Prim.Native.Nat.{ℕ, zero, suc, ◌≤◌, ◌<◌}
use native.Mathlib.Omega.{arith}
use native.Mathlib.Decide.{dec_lt}
use mathlib.Core.List.{List}
use lib.ListN.{length, get_or, replicate, length-replicate, get_or-replicate, get_or-eq_default}
use Rattle.model.specs.Model.{Trace}
use Rattle.model.specs.Plans.{flags_in}
use Rattle.trace.specs.TraceFile.{requests_at, slots_at, fill_at, trace_in, SoundTrace}
use Rattle.trace.proofs.Sound.{sound_trace, trace_within, reqs_length}
use Rattle.links.proofs.Answered.{next_at, prev_at}
use Rattle.network.specs.Sound.{count, no_flags, Start}
use Rattle.network.proofs.Worths.{start_sound, more_slots}
use Rattle.network.proofs.Limits.{start_bounded, rents_limit, start_rents_limit}
use Rattle.network.proofs.Same.{sound_same}
use Rattle.opening.specs.Opened.{nexts_of, prevs_of}
use Rattle.ways.proofs.Laws.{source_at, charge_stored}
use Rattle.worths.proofs.Opening.{started_start}
use Rattle.steps.specs.Lists.{Lists, points_in, requests_in, Fits}
use Rattle.steps.specs.Slots.{Laid, Cheap}
use Rattle.steps.specs.Ready.{Ready}

-- ---- one slot after the other

module _ {trace : List ℕ} {n fill k : ℕ} {worth flags from charges : List ℕ} (l : Laid trace n fill k worth flags from charges) where
  -- as many requests as the trace has
  pub laid_size : n ≡ count (trace_in trace)
  laid_size = l.lists.size ∙ sym (reqs_length trace)

  pub laid_few : n ≤ 1024
  laid_few = omega (arith, laid_size, l.lists.within.requests)

  -- other flags and worths that fit
  pub laid_again : (k' : ℕ) (worth' flags' : List ℕ) → k' ≤ 64 → Fits (trace_in trace) k' flags' worth' → length worth' ≡ 2050 → length flags' ≡ 1024
      → Laid trace n fill k' worth' flags' from charges
  laid_again k' worth' flags' few f a b = record {
    lists = l.lists;
    fits = f;
    few = few;
    worth_long = a;
    flags_long = b;
  }

  -- once the first point is worth no more than the last, there may be any more slots
  pub laid_more : (w : ℕ) → k ≤ w → w ≤ 64 → get_or worth 0 0 ≡ get_or worth n 0 → Laid trace n fill w worth flags from charges
  laid_more w m few e =
      laid_again w worth flags few
      (record {
        sound = more_slots (trace_in trace) k w (flags_in flags) (points_in worth) (requests_in (count (trace_in trace)) worth) l.fits.sound (rw laid_size at e) m;
        bounded = l.fits.bounded;
        values = l.fits.values;
      })
      l.worth_long l.flags_long

  -- with a slot or more the rents are within the limit
  pub laid_cheap : 0 < k → Cheap n worth
  laid_cheap z = record {
    falls = λ g m. l.fits.sound.idle g (omega (arith, laid_size));
    limit = λ g m.
        let i : g < count (trace_in trace) = omega (arith, laid_size) in
        omega (
          arith,
          rents_limit (trace_in trace) k (flags_in flags) (points_in worth) (requests_in (count (trace_in trace)) worth) l.lists.within l.fits.sound z g i,
        );
  }

-- ---- no slot yet

-- no flags
blank : (n i : ℕ) → get_or (replicate {A = ℕ} n 0) i 0 ≡ 0
blank n i =
    elim (dec_lt i n) [
      | yes y ↦ get_or-replicate n i 0 0 y
      | no y ↦ get_or-eq_default (replicate {A = ℕ} n 0) 0 {n = i} (omega (arith, length-replicate {A = ℕ} n 0))
    ]

blank_flag : (flags : List ℕ) → ((t : ℕ) → get_or flags t 0 ≡ 0) → (t : ℕ) → no_flags t ≡ flags_in flags t
blank_flag flags b zero = refl
blank_flag flags b (suc t) = rw (b t)

module _ {trace from charges worth buffer : List ℕ} (r : Ready trace from charges worth buffer) where
  abbrev tr : Trace
  tr = trace_in trace

  abbrev P : ℕ → ℕ
  P = points_in worth

  abbrev Q : ℕ → ℕ
  Q = requests_in (count tr) worth

  ready_sound : SoundTrace trace
  ready_sound = sound_trace trace r.sound

  pub ready_few : requests_at trace ≤ 1024
  ready_few = ready_sound.requests

  pub ready_slots : slots_at trace ≤ 64
  ready_slots = ready_sound.slots

  pub ready_fill : fill_at trace ≤ 1000000
  ready_fill = ready_sound.fill

  ready_lists : Lists trace (requests_at trace) (fill_at trace) from charges
  ready_lists = record {
    within = trace_within trace ready_sound;
    size = refl;
    price = refl;
    next = nexts_of trace;
    prev = prevs_of trace;
    nexts = λ t l. next_at trace (replicate 1024 0) t r.sound l;
    prevs = λ t l. prev_at trace (replicate 1024 0) t r.sound l;
    sources = λ u kind h o. source_at r.lists.sources ready_few u kind h o;
    charged = λ t l. charge_stored r.lists.charged ready_few t l;
  }

  started : Start tr P Q
  started = started_start trace (nexts_of trace) r.worth₀ worth ready_sound
      (λ t l. next_at trace (replicate 1024 0) t r.sound (omega (arith, reqs_length trace))) r.lists.started

  -- the start lays no slot
  start_laid : Laid trace (requests_at trace) (fill_at trace) 0 worth (replicate 1024 0) from charges
  start_laid = record {
    lists = ready_lists;
    fits = record {
      sound = sound_same tr 0 no_flags (flags_in (replicate 1024 0)) P Q (blank_flag (replicate 1024 0) (blank 1024)) (start_sound tr P Q started);
      bounded = start_bounded tr P Q started;
      values = λ t. omega (arith, blank 1024 t);
    };
    few = omega arith;
    worth_long = r.worth_long;
    flags_long = length-replicate {A = ℕ} 1024 0;
  }

  -- its rents are within the limit
  start_cheap : Cheap (requests_at trace) worth
  start_cheap = record {
    falls = λ g m. (start_sound tr P Q started).idle g (omega (arith, reqs_length trace));
    limit = λ g m.
        let i : g < count tr = omega (arith, reqs_length trace) in
        omega (arith, start_rents_limit tr P Q ready_lists.within started g i);
  }

  pub ready_laid : (n fill : ℕ) → n ≡ requests_at trace → fill ≡ fill_at trace
      → Laid trace n fill 0 worth (replicate 1024 0) from charges × Cheap n worth
  ready_laid n fill a b = rw (a, b) (start_laid, start_cheap)
