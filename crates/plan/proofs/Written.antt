-- Laws of a plan's bytes: how many they are, and that what is written is read back, so that no two plans share them. Assumes nothing.
use mathlib.Core.Path.{◌≡◌, refl, sym, ◌∙◌, ap}
use Prim.Native.Nat.{ℕ, ◌+◌, ◌*◌, ◌≤◌, ◌<◌}
use native.Mathlib.Omega.{arith}
use mathlib.Core.List.{List, [], ◌∷◌, ◌++◌, append_assoc, append-nil}
use lib.ListN.{length, get_or, length-append}
use lib.Seq.{take_all, take_at, drop_at, ext_get_or}
use Rattle.fields.specs.Bytes.{num_at, bytes_of, bytes_of_all}
use Rattle.fields.proofs.Bytes.{AllBelow, length-bytes, num_bytes_after, length-bytes_all, num_bytes_all}
use Rattle.model.specs.Links.{listed}
use Rattle.model.specs.Refusals.{passes}
use Rattle.model.proofs.Links.{length-listed, get_d_listed}
use Rattle.plan.specs.PlanFile.{shape_of, stated_at, flags_part, rents_part, rent_in, rents_at, plan_tried, plan_bytes}
use Rattle.plan.proofs.Sound.{SoundPlan, plan_sound}

-- what stands before the stated cost, in the plan for n requests
abbrev pub head_bytes : (n : ℕ) → List ℕ
head_bytes n = 67 ∷ 80 ∷ 76 ∷ bytes_of 2 1 ++ 0 ∷ bytes_of 2 n

length-head : (n : ℕ) → length (head_bytes n) ≡ 8
unfolding bytes_of
length-head n = refl

length-to_cost : (cost n : ℕ) → length (head_bytes n ++ bytes_of 8 cost) ≡ 16
length-to_cost cost n = omega (arith, length-append (head_bytes n) (bytes_of 8 cost), length-head n, length-bytes 8 cost)

length-to_flags : (cost : ℕ) (flags : List ℕ) → length (head_bytes (length flags) ++ bytes_of 8 cost ++ flags) ≡ 16 + length flags
length-to_flags cost flags =
    omega (arith, length-append (head_bytes (length flags) ++ bytes_of 8 cost) flags, length-to_cost cost (length flags))

-- the head, a byte to a flag, four to a rent
pub plan_length : (cost : ℕ) (flags rents : List ℕ) → length (plan_bytes cost flags rents) ≡ 16 + length flags + 4 * length rents
unfolding plan_bytes
plan_length cost flags rents =
    omega (arith, length-append (head_bytes (length flags) ++ bytes_of 8 cost ++ flags) (bytes_of_all 4 rents), length-to_flags cost flags, length-bytes_all 4 rents)

-- a cost, flags and rents that a plan for n requests has room for
pub record Fits (n cost : ℕ) (flags rents : List ℕ) : Type 0 where
  pub few : n ≤ 65535
  pub flags_long : length flags ≡ n
  pub rents_long : length rents ≡ n
  pub cost_small : cost < 18446744073709551616
  pub rents_small : AllBelow 4294967296 rents

-- a plan for n requests from which this cost, these flags and these rents are read
pub record Holds (n cost : ℕ) (flags rents pl : List ℕ) : Type 0 where
  pub tried : plan_tried n pl ≡ passes
  pub stated : stated_at pl ≡ cost
  pub flags_kept : flags_part (shape_of n) pl ≡ flags
  pub rents_read : rents_at (shape_of n) pl ≡ rents

-- numbers read one by one
listed_read : (f : ℕ → ℕ) (l : List ℕ) → ((t : ℕ) → t < length l → f t ≡ get_or l t 0) → listed f (length l) 0 ≡ l
listed_read f l h =
    ext_get_or 0 (listed f (length l) 0) l (length-listed f (length l) 0)
    (λ i b.
    let z : 0 + i ≡ i = omega arith in
    let s : i < length l = omega (arith, length-listed f (length l) 0) in
    get_d_listed f (length l) 0 i 0 s ∙ (rw z (h i s)))

module _ {n cost : ℕ} {flags rents : List ℕ} (fits : Fits n cost flags rents) where
  written_sound : SoundPlan n (plan_bytes cost flags rents)
  unfolding plan_bytes num_at bytes_of
  written_sound = record {
    first = refl;
    second = refl;
    third = refl;
    version = refl;
    nought = refl;
    requests = omega (arith, fits.flags_long, fits.few);
    long = omega (arith, plan_length cost flags rents, fits.flags_long, fits.rents_long);
  }

  written_stated : stated_at (plan_bytes cost flags rents) ≡ cost
  unfolding plan_bytes
  written_stated =
      let all = head_bytes (length flags) ++ (bytes_of 8 cost ++ (flags ++ bytes_of_all 4 rents)) in
      rw (append_assoc, append_assoc)
      (ap (λ (at : ℕ). num_at 8 at all) (sym (length-head (length flags)))
      ∙ num_bytes_after (head_bytes (length flags)) 8 cost (flags ++ bytes_of_all 4 rents) fits.cost_small)

  written_flags : flags_part (shape_of n) (plan_bytes cost flags rents) ≡ flags
  unfolding plan_bytes
  written_flags =
      rw (append_assoc, drop_at (head_bytes (length flags) ++ bytes_of 8 cost) (flags ++ bytes_of_all 4 rents) 16 (length-to_cost cost (length flags)))
      (take_at flags (bytes_of_all 4 rents) n fits.flags_long)

  written_rents_part : rents_part (shape_of n) (plan_bytes cost flags rents) ≡ bytes_of_all 4 rents
  unfolding plan_bytes
  written_rents_part =
      let e : length (head_bytes (length flags) ++ bytes_of 8 cost ++ flags) ≡ 16 + n = omega (arith, length-to_flags cost flags, fits.flags_long) in
      rw (drop_at (head_bytes (length flags) ++ bytes_of 8 cost ++ flags) (bytes_of_all 4 rents) (16 + n) e)
      (take_all (4 * n) (bytes_of_all 4 rents) (omega (arith, length-bytes_all 4 rents, fits.rents_long)))

  written_rents : rents_at (shape_of n) (plan_bytes cost flags rents) ≡ rents
  written_rents =
      rw (written_rents_part, ← fits.rents_long)
      (listed_read (rent_in (bytes_of_all 4 rents)) rents
      (λ t h. rw append-nil at (num_bytes_all 4 t rents [] h fits.rents_small)))

  -- what is written is read back
  pub read_back : Holds n cost flags rents (plan_bytes cost flags rents)
  read_back = record {
    tried = plan_sound n _ written_sound;
    stated = written_stated;
    flags_kept = written_flags;
    rents_read = written_rents;
  }

-- equal bytes are of equal plans
pub bytes_differ : {n cost m cost' : ℕ} {flags rents flags' rents' : List ℕ}
    → Fits n cost flags rents
    → Fits m cost' flags' rents'
    → plan_bytes cost flags rents ≡ plan_bytes cost' flags' rents'
    → (cost ≡ cost') × (flags ≡ flags') × (rents ≡ rents')
bytes_differ {n} {cost} {m} {cost'} {flags} {rents} {flags'} {rents'} f g e =
    let same : m ≡ n = sym (written_sound g).requests ∙ (rw e at (written_sound f).requests) in
    let a : Holds n cost flags rents (plan_bytes cost' flags' rents') = rw e at (read_back f) in
    let b : Holds n cost' flags' rents' (plan_bytes cost' flags' rents') = rw same at (read_back g) in
    (sym a.stated ∙ b.stated, sym a.flags_kept ∙ b.flags_kept, sym a.rents_read ∙ b.rents_read)
