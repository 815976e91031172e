-- The laws of a plan's bytes at work on a plan for one request. Assumes nothing.
use mathlib.Core.Path.{◌≡◌, refl}
use Prim.Native.Nat.{ℕ, zero, suc, ◌<◌}
use native.Mathlib.Omega.{arith}
use mathlib.Core.Bool.{Bool, true, ◌&&◌}
use mathlib.Core.List.{List, [], ◌∷◌}
use lib.Dec.{ltb}
use borrow.Author.Tests.{ltb-true}
use Rattle.model.proofs.Refusals.{both_true}
use Rattle.fields.proofs.Bytes.{AllBelow}
use Rattle.fields.specs.Bytes.{bytes_of}
use Rattle.plan.specs.PlanFile.{shape_of, stated_at, flags_part, rents_at, plan_bytes}
use Rattle.plan.proofs.Standing.{is_bytes}
use Rattle.plan.proofs.Written.{Fits, Holds, read_back}

-- a plan that costs 258, with one flag and one rent
abbrev file : List ℕ
file = 67 ∷ 80 ∷ 76 ∷ 1 ∷ 0 ∷ 0 ∷ 1 ∷ 0 ∷ 2 ∷ 1 ∷ 0 ∷ 0 ∷ 0 ∷ 0 ∷ 0 ∷ 0 ∷ 1 ∷ 3 ∷ 0 ∷ 1 ∷ 0 ∷ []

-- whether every element is below m
abbrev all_below : (m : ℕ) → List ℕ → Bool
all_below m [] = true
all_below m (x ∷ l) = ltb x m && all_below m l

all_below_lem : (m : ℕ) (l : List ℕ) → 0 < m → all_below m l ≡ true → AllBelow m l
all_below_lem m [] z h i = z
all_below_lem m (x ∷ l) z h zero = ltb-true x m (both_true (ltb x m) (all_below m l) h).0
all_below_lem m (x ∷ l) z h (suc i) = all_below_lem m l z (both_true (ltb x m) (all_below m l) h).1 i

fits : Fits 1 258 (1 ∷ []) (65539 ∷ [])
fits = record {
  few = omega arith;
  flags_long = refl;
  rents_long = refl;
  cost_small = omega arith;
  rents_small = all_below_lem 4294967296 (65539 ∷ []) (omega arith) refl;
}

-- its bytes are those of the document's layout
written : plan_bytes 258 (1 ∷ []) (65539 ∷ []) ≡ file
unfolding plan_bytes bytes_of
written = refl

-- what is read back from them
pub read : Holds 1 258 (1 ∷ []) (65539 ∷ []) file
read = rw written at (read_back fits)

-- and they stand for nothing else
pub stands : file ≡ plan_bytes (stated_at file) (flags_part (shape_of 1) file) (rents_at (shape_of 1) file)
stands = is_bytes 1 file (all_below_lem 256 file (omega arith) refl) read.tried
