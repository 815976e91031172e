-- Laws of the rows 9 to 12 and 17: what is known where none of them holds, and that an answer is the only one. Assumes nothing.
use mathlib.Core.Path.{◌≡◌, refl}
use Prim.Native.Nat.{ℕ, zero, suc, ◌+◌, ◌*◌, ◌≤◌}
use native.Mathlib.Omega.{arith}
use mathlib.Core.Bool.{true, not}
use mathlib.Core.List.{List, [], ◌∷◌}
use lib.ListN.{length, get_or}
use lib.Dec.{eqb, ltb}
use borrow.Author.Tests.{eqb-true, eq-eqb, ltb-false, le-ltb, not-false}
use Rattle.model.proofs.Refusals.{row_passes, both_true}
use Rattle.fields.specs.Bytes.{num_at, stand_at}
use Rattle.model.specs.Numbers.{max_rent}
use Rattle.model.specs.Refusals.{Tried, passes, said}
use Rattle.std.proofs.Common.{Result}
use Rattle.model.specs.declared.Refusal.{Refusal}
use Rattle.model.proofs.Refusals.{said_unique}
use Rattle.plan.specs.PlanFile.{shape_of, length_of, marked_plan, plan_tried, rents_tried}

-- ---- rows 9 to 12

-- a plan for n requests with none of 9 to 12, taken apart
pub record SoundPlan (n : ℕ) (pl : List ℕ) : Type 0 where
  pub first : get_or pl 0 0 ≡ 67
  pub second : get_or pl 1 0 ≡ 80
  pub third : get_or pl 2 0 ≡ 76
  pub version : num_at 2 3 pl ≡ 1
  pub nought : get_or pl 5 0 ≡ 0
  pub requests : num_at 2 6 pl ≡ n
  pub long : length pl ≡ 16 + 5 * n

pub sound_plan : (n : ℕ) (pl : List ℕ) → plan_tried n pl ≡ passes → SoundPlan n pl
unfolding plan_tried
sound_plan n pl h =
    let nine = row_passes (ltb (length pl) 16) 9 0 _ h in
    let ten = row_passes (not (marked_plan pl)) 10 0 _ nine.1 in
    let eleven = row_passes (not (eqb (num_at 2 6 pl) n)) 11 0 _ ten.1 in
    let twelve = row_passes (not (eqb (length pl) (length_of (shape_of n)))) 12 0 passes eleven.1 in
    let mark = both_true (stand_at (67 ∷ 80 ∷ 76 ∷ []) 0 pl) _ (not-false (marked_plan pl) ten.0) in
    let a = both_true (eqb (get_or pl 0 0) 67) (stand_at (80 ∷ 76 ∷ []) 1 pl) mark.0 in
    let b = both_true (eqb (get_or pl 1 0) 80) (stand_at (76 ∷ []) 2 pl) a.1 in
    let c = both_true (eqb (get_or pl 2 0) 76) true b.1 in
    let d = both_true (eqb (num_at 2 3 pl) 1) (eqb (get_or pl 5 0) 0) mark.1 in
    record {
      first = eqb-true _ _ a.0;
      second = eqb-true _ _ b.0;
      third = eqb-true _ _ c.0;
      version = eqb-true _ _ d.0;
      nought = eqb-true _ _ d.1;
      requests = eqb-true _ _ (not-false _ eleven.0);
      long = omega (arith, eqb-true (length pl) (16 + n + 4 * n) (not-false (eqb (length pl) (16 + n + 4 * n)) twelve.0));
    }

pub plan_sound : (n : ℕ) (pl : List ℕ) → SoundPlan n pl → plan_tried n pl ≡ passes
unfolding plan_tried
plan_sound n pl s =
    let long : length pl ≡ 16 + n + 4 * n = omega (arith, s.long) in
    rw (le-ltb (length pl) 16 (omega arith), eq-eqb _ _ s.first, eq-eqb _ _ s.second, eq-eqb _ _ s.third, eq-eqb _ _ s.version, eq-eqb _ _ s.nought, eq-eqb _ _ s.requests, eq-eqb _ _ long)

-- ---- row 17

-- rents without row 17 are each at most the largest rent
pub rents_sound : (t : ℕ) (l : List ℕ) → rents_tried t l ≡ passes → (i : ℕ) → get_or l i 0 ≤ max_rent
rents_sound t [] h i = omega arith
rents_sound t (p ∷ ps) h zero = ltb-false max_rent p (row_passes (ltb max_rent p) 17 (suc t) (rents_tried (suc t) ps) h).0
rents_sound t (p ∷ ps) h (suc i) = rents_sound (suc t) ps (row_passes (ltb max_rent p) 17 (suc t) (rents_tried (suc t) ps) h).1 i

-- and the other way round
pub sound_rents : (t : ℕ) (l : List ℕ) → ((i : ℕ) → get_or l i 0 ≤ max_rent) → rents_tried t l ≡ passes
sound_rents t [] h = refl
sound_rents t (p ∷ ps) h = rw (le-ltb max_rent p (h 0)) (sound_rents (suc t) ps (λ i. h (suc i)))

-- ---- one answer

-- two outcomes that say the same are the same
pub refusal_unique : (a b : Result Unit Refusal) (x : Tried) → said a ≡ x → said b ≡ x → a ≡ b
refusal_unique = said_unique
