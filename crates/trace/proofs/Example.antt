-- The laws of trace files at work on document 01's own input: read 5 at cost 10, write 5 at cost 7, read 5 at cost 10, with one slot and F = 2.
-- Assumes nothing.
use mathlib.Core.Path.{◌≡◌, refl}
use Prim.Native.Nat.{ℕ, zero, suc, ◌≤◌}
use native.Mathlib.Omega.{arith}
use mathlib.Core.Bool.{true, false}
use mathlib.Core.List.{List, [], ◌∷◌}
use Rattle.fields.specs.Bytes.{bytes_of}
use Rattle.model.specs.Model.{Trace}
use Rattle.model.specs.Numbers.{Within}
use Rattle.model.specs.Plans.{request_at}
use Rattle.model.specs.Refusals.{passes}
use Rattle.trace.specs.TraceFile.{trace_tried, trace_in, trace_bytes, SoundTrace}
use Rattle.trace.proofs.Sound.{sound_trace}
use Rattle.trace.proofs.ReadBack.{bytes_sound, bytes_read_back}

-- its requests and rules
abbrev pub example : Trace
example =
    record {
      rules = record { slots = 1; fill = 2 };
      reqs =
          record { write = false; item = 5; cost = 10 }
          ∷ record { write = true; item = 5; cost = 7 }
          ∷ record { write = false; item = 5; cost = 10 }
          ∷ [];
    }

-- its bytes, as the document has them
abbrev pub example_bytes : List ℕ
example_bytes =
    0x43 ∷ 0x54 ∷ 0x52 ∷ 0x01 ∷ 0x00 ∷ 0x01 ∷ 0x03 ∷ 0x00 ∷ 0x02 ∷ 0x00 ∷ 0x00 ∷ 0x00
    ∷ 0x05 ∷ 0x00 ∷ 0x00 ∷ 0x00 ∷ 0x0A ∷ 0x00 ∷ 0x00 ∷ 0x00
    ∷ 0x05 ∷ 0x00 ∷ 0x01 ∷ 0x00 ∷ 0x07 ∷ 0x00 ∷ 0x00 ∷ 0x00
    ∷ 0x05 ∷ 0x00 ∷ 0x00 ∷ 0x00 ∷ 0x0A ∷ 0x00 ∷ 0x00 ∷ 0x00
    ∷ []

pub example_bytes_lem : trace_bytes example ≡ example_bytes
unfolding bytes_of
example_bytes_lem = refl

example_within : Within example
example_within =
    record {
      slots = omega arith;
      requests = omega arith;
      fill = omega arith;
      costs = (omega arith, (omega arith, (omega arith, tt)));
    }

example_items : (t : ℕ) → (request_at example.reqs t).item ≤ 65535
example_items zero = omega arith
example_items (suc zero) = omega arith
example_items (suc (suc zero)) = omega arith
example_items (suc (suc (suc t))) = omega arith

pub example_passes : trace_tried example_bytes ≡ passes
example_passes = rw example_bytes_lem at (bytes_sound example example_within example_items)

pub example_read : trace_in example_bytes ≡ example
example_read = rw example_bytes_lem at (bytes_read_back example example_within example_items)

pub example_sound : SoundTrace example_bytes
example_sound = sound_trace example_bytes example_passes
