-- A plan with none of 9 to 12 is the bytes of what is read from it. Assumes nothing.
use mathlib.Core.Path.{◌≡◌, refl, sym, ◌∙◌, ap}
use Prim.Native.Nat.{ℕ, zero, suc, ◌+◌, ◌*◌, ◌/◌, ◌%◌, ◌≤◌, ◌<◌}
use native.Mathlib.Nat.{mul-suc, mod-eq_of_lt}
use native.Mathlib.Omega.{arith}
use native.Mathlib.Decide.{dec_lt}
use mathlib.Core.List.{List, ◌++◌}
use lib.ListN.{length, get_or, take, drop, length-take, length-drop, take-append-drop, get_or-eq_default}
use lib.Seq.{take_all, drop-cons, take-add, drop-drop, get_or-take, get_or-drop}
use Rattle.fields.specs.Bytes.{num_at, bytes_of, bytes_of_all}
use Rattle.fields.proofs.Bytes.{AllBytes, bytes_num}
use Rattle.model.specs.Links.{listed}
use Rattle.model.specs.Refusals.{passes}
use Rattle.plan.specs.PlanFile.{shape_of, stated_at, flags_part, rents_part, rents_at, plan_tried, plan_bytes}
use Rattle.plan.proofs.Sound.{SoundPlan, sound_plan}
use Rattle.plan.proofs.Written.{head_bytes}

-- a part is its elements one by one
take_listed : (k t : ℕ) (l : List ℕ) → t + k ≤ length l → take k (drop t l) ≡ listed (λ i. get_or l i 0) k t
take_listed zero t l h = refl
take_listed (suc k) t l h =
    let lt : t < length l = omega arith in rw (drop-cons l t 0 lt, take_listed k (suc t) l (omega arith))

-- the bytes of the m numbers from number t on are those that stand there
bytes_all_num : (k m t : ℕ) (l : List ℕ) → k * t + k * m ≤ length l → AllBytes l
    → bytes_of_all k (listed (λ i. num_at k (k * i) l) m t) ≡ take (k * m) (drop (k * t) l)
bytes_all_num k zero t l h b = let z : k * 0 ≡ 0 = omega arith in rw z
bytes_all_num k (suc m) t l h b =
    let e : k * suc m ≡ k + k * m = omega (arith, mul-suc k m) in
    let f : k * suc t ≡ k * t + k = mul-suc k t in
    let ih : bytes_of_all k (listed (λ i. num_at k (k * i) l) m (suc t)) ≡ take (k * m) (drop (k * suc t) l) = bytes_all_num k m (suc t) l (omega arith) b in
    rw (ih, bytes_num k (k * t) l (omega arith) b, e, take-add k (k * m) (drop (k * t) l), drop-drop k (k * t) l, f)

-- a part of bytes is bytes
part_bytes : (n at : ℕ) (l : List ℕ) → AllBytes l → AllBytes (take n (drop at l))
part_bytes n at l b i =
    elim (dec_lt i n) [
      | yes h ↦ rw (get_or-take n (drop at l) i 0 h, get_or-drop at l i 0) (b (at + i))
      | no h ↦ rw (get_or-eq_default (take n (drop at l)) 0 {n = i} (omega (arith, length-take n (drop at l)))) (omega arith)
    ]

module _ (n : ℕ) (pl : List ℕ) (b : AllBytes pl) (s : SoundPlan n pl) where
  head_stands : take 8 pl ≡ head_bytes n
  unfolding bytes_of num_at
  head_stands =
      let v = s.version in
      let r = s.requests in
      let three : get_or pl 3 0 ≡ 1 = omega (arith, b 3, b 4) in
      let four : get_or pl 4 0 ≡ 0 = omega (arith, b 3, b 4) in
      let six : get_or pl 6 0 ≡ n % 256 = omega (arith, b 6, b 7) in
      let high : n / 256 ≡ get_or pl 7 0 = omega (arith, b 6, b 7) in
      let seven : get_or pl 7 0 ≡ n / 256 % 256 = rw high (sym (mod-eq_of_lt (b 7))) in
      take_listed 8 0 pl (omega (arith, s.long))
      ∙ rw (s.first, s.second, s.third, three, four, s.nought, six, seven)

  cost_stands : take 8 (drop 8 pl) ≡ bytes_of 8 (stated_at pl)
  cost_stands = sym (bytes_num 8 8 pl (omega (arith, s.long)) b)

  rents_stand : drop (16 + n) pl ≡ bytes_of_all 4 (rents_at (shape_of n) pl)
  rents_stand =
      let long : length (drop (16 + n) pl) ≡ 4 * n = omega (arith, length-drop (16 + n) pl, s.long) in
      let whole : take (4 * n) (drop (16 + n) pl) ≡ drop (16 + n) pl = take_all (4 * n) _ (omega arith) in
      let part = rents_part (shape_of n) pl in
      let e : bytes_of_all 4 (rents_at (shape_of n) pl) ≡ take (4 * n) part =
      bytes_all_num 4 n 0 part (omega (arith, ap length whole)) (part_bytes (4 * n) (16 + n) pl b) in
      sym whole ∙ sym (take_all (4 * n) part (omega (arith, ap length whole))) ∙ sym e

  stands : pl ≡ plan_bytes (stated_at pl) (flags_part (shape_of n) pl) (rents_at (shape_of n) pl)
  unfolding plan_bytes
  stands =
      let long : length (flags_part (shape_of n) pl) ≡ n = omega (arith, length-take n (drop 16 pl), length-drop 16 pl, s.long) in
      let one : take 16 pl ≡ head_bytes n ++ bytes_of 8 (stated_at pl) = take-add 8 8 pl ∙ rw (head_stands, cost_stands) in
      let two : take (16 + n) pl ≡ head_bytes n ++ bytes_of 8 (stated_at pl) ++ flags_part (shape_of n) pl = take-add 16 n pl ∙ rw one in
      let front = head_bytes n ++ bytes_of 8 (stated_at pl) ++ flags_part (shape_of n) pl in
      let read : front ++ bytes_of_all 4 (rents_at (shape_of n) pl) ≡ plan_bytes (stated_at pl) (flags_part (shape_of n) pl) (rents_at (shape_of n) pl) = rw long in
      sym (take-append-drop (16 + n) pl)
      ∙ ap (λ (l : List ℕ). l ++ drop (16 + n) pl) two
      ∙ ap (λ (l : List ℕ). front ++ l) rents_stand
      ∙ read

-- a plan with none of 9 to 12 is the bytes of its stated cost, its flags and its rents
pub is_bytes : (n : ℕ) (pl : List ℕ) → AllBytes pl → plan_tried n pl ≡ passes
    → pl ≡ plan_bytes (stated_at pl) (flags_part (shape_of n) pl) (rents_at (shape_of n) pl)
is_bytes n pl b h = stands n pl b (sound_plan n pl h)
