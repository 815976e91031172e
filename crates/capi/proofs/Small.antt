-- Every refusal that the calls give has a number that fits a byte, and the place of a request or gap: its code does not wrap, and tells both
-- again. Assumes nothing.
use mathlib.Core.Path.{◌≡◌, refl}
use Prim.Native.Nat.{ℕ, zero, suc, ◌+◌, ◌≤◌}
use native.Mathlib.Omega.{arith}
use mathlib.Core.Bool.{Bool, true, false, not, ◌||◌, ◌&&◌}
use mathlib.Core.List.{List, [], ◌∷◌}
use lib.ListN.{length}
use lib.Dec.{eqb, ltb}
use borrow.Author.Rules.{rules}
use borrow.Author.Tests.{eqb-true, ltb-false, not-false}
use Rattle.model.proofs.Refusals.{row_passes}
use Rattle.fields.specs.Bytes.{num_at}
use Rattle.model.specs.Model.{Rules, Request, Trace, Contents}
use Rattle.model.specs.Plans.{Flags, flags_in, may_flag, occupancy}
use Rattle.model.specs.Numbers.{max_slots, max_requests, max_cost, max_rent, max_plan_cost}
use Rattle.std.specs.Prelude.{Result, Ok, Err}
use Rattle.model.specs.Refusals.{Tried, passes, refusal, row, next, refused, answer, answered, said}
use Rattle.model.specs.declared.Refusal.{Refusal}
use Rattle.model.proofs.Links.{length-listed}
use Rattle.trace.specs.TraceFile.{slots_at, requests_at, fill_at, kind_at, zero_at, cost_at, length_at, marked_trace, records_tried, trace_tried, trace_in}
use Rattle.trace.proofs.Sound.{sound_trace, reqs_length}
use Rattle.plan.specs.PlanFile.{shape_of, length_of, stated_at, rent_in, rents_part, marked_plan, plan_tried, section_tried, rents_tried}
use Rattle.replay.specs.Replay.{named, values_tried, stands_tried, room_tried, flags_tried, count_tried}
use Rattle.audit.specs.Audit.{plan_flags, plan_rents, plan_cost, audit_tried}
use Rattle.audit.proofs.Parts.{section_trace, flags_count}
use Rattle.judge.specs.Judge.{isℤ, plan_floor, judge_tried}
use Rattle.floor.specs.Floor.{floor_tried}
use Rattle.ratio.specs.Ratio.{ratio_tried}
use Rattle.solver.specs.Solve.{solve_tried}
use Rattle.writer.specs.Write.{buffer_tried, write_tried}
use Rattle.capi.specs.Codes.{Codable, Coded, code_of_tried}

-- what rows come to: none holds, or one whose code tells it
pub data Small : Tried → Type 0 where
  none : Small passes
  one : {number place : ℕ} → Codable number place → Small (refusal number place)

-- ---- one row, and one range after another

row_small : (test : Bool) (number place : ℕ) {rest : Tried} → Codable number place → (test ≡ false → Small rest) → Small (row test number place rest)
row_small true number place h k = one h
row_small false number place h k = k refl

next_small : {a b : Tried} → Small a → (a ≡ passes → Small b) → Small (next a b)
next_small none k = k refl
next_small (one h) k = one h

-- ---- a row for each of a list

records_small : (k t : ℕ) (tr : List ℕ) → t + k ≤ 65536 → Small (records_tried k t tr)
records_small zero t tr h = none
records_small (suc k) t tr h =
    row_small (ltb 1 (kind_at tr t) || not (eqb (zero_at tr t) 0)) 7 (suc t) (search rules)
    (λ _. row_small (ltb max_cost (cost_at tr t)) 8 (suc t) (search rules)
    (λ _. records_small k (suc t) tr (omega arith)))

values_small : (t : ℕ) (flags : List ℕ) → t + length flags ≤ 65536 → Small (values_tried t flags)
values_small t [] h = none
values_small t (f ∷ fs) h =
    row_small (ltb 1 f) 13 (suc t) (search rules) (λ _. values_small (suc t) fs (omega arith))

stands_small : (ru : Rules) (t : ℕ) (rs : List Request) (x : Flags) (S : Contents) → t + length rs ≤ 65536 → Small (stands_tried ru t rs x S)
stands_small ru t [] x S h = none
stands_small ru t (r ∷ rs) x S h =
    row_small (x (suc t) && not (may_flag ru t r rs S)) 14 (suc t) (search rules)
    (λ _. stands_small ru (suc t) rs x S (omega arith))

room_small : (tr : Trace) (S : Contents) (t : ℕ) (rs : List Request) → t + length rs ≤ 65536 → Small (room_tried tr S t rs)
room_small tr S t [] h = none
room_small tr S t (r ∷ rs) h =
    row_small (ltb tr.rules.slots (occupancy tr.reqs S (suc t))) 15 (suc t) (search rules)
    (λ _. room_small tr S (suc t) rs (omega arith))

rents_small : (t : ℕ) (rents : List ℕ) → t + length rents ≤ 65536 → Small (rents_tried t rents)
rents_small t [] h = none
rents_small t (p ∷ ps) h =
    row_small (ltb max_rent p) 17 (suc t) (search rules) (λ _. rents_small (suc t) ps (omega arith))

-- ---- each range

pub trace_small : (tr : List ℕ) → Small (trace_tried tr)
unfolding trace_tried
trace_small tr =
    row_small (ltb (length tr) 12) 1 0 (search rules)
    (λ _. row_small (not (marked_trace tr)) 2 0 (search rules)
    (λ _. row_small (ltb max_slots (slots_at tr)) 3 0 (search rules)
    (λ _. row_small (ltb max_requests (requests_at tr)) 4 0 (search rules)
    (λ few. row_small (ltb max_cost (fill_at tr)) 5 0 (search rules)
    (λ _. row_small (not (eqb (length tr) (length_at tr))) 6 0 (search rules)
    (λ _. records_small (requests_at tr) 0 tr (omega (arith, ltb-false max_requests (requests_at tr) few))))))))

plan_small : (n : ℕ) (pl : List ℕ) → Small (plan_tried n pl)
unfolding plan_tried
plan_small n pl =
    row_small (ltb (length pl) 16) 9 0 (search rules)
    (λ _. row_small (not (marked_plan pl)) 10 0 (search rules)
    (λ _. row_small (not (eqb (num_at 2 6 pl) n)) 11 0 (search rules)
    (λ _. row_small (not (eqb (length pl) (length_of (shape_of n)))) 12 0 (search rules)
    (λ _. none))))

pub section_small : (tr pl : List ℕ) → Small (section_tried tr pl)
unfolding section_tried
section_small tr pl = next_small (trace_small tr) (λ _. plan_small (requests_at tr) pl)

-- a sound trace's n is within reach
few : (tr : List ℕ) → trace_tried tr ≡ passes → requests_at tr ≤ 1024
few tr h = (sound_trace tr h).requests

-- row 11, and that a list that passes it is as long as the trace has requests
count_small : (n : ℕ) (l : List ℕ) → Small (count_tried n l)
count_small n l = row_small (not (eqb (length l) n)) 11 0 (search rules) (λ _. none)

count_passes : (n : ℕ) (l : List ℕ) → count_tried n l ≡ passes → length l ≡ n
count_passes n l h = eqb-true _ _ (not-false _ (row_passes (not (eqb (length l) n)) 11 0 passes h).0)

flags_small : (tr flags : List ℕ) → trace_tried tr ≡ passes → length flags ≡ requests_at tr → Small (flags_tried (trace_in tr) flags)
unfolding flags_tried
flags_small tr flags ok long =
    let T = trace_in tr in
    let n : length T.reqs ≤ 65536 = omega (arith, reqs_length tr, few tr ok) in
    next_small (values_small 0 flags (omega (arith, few tr ok)))
    (λ _. next_small (stands_small T.rules 0 T.reqs (flags_in flags) (named T flags) (omega arith))
    (λ _. room_small T (named T flags) 0 T.reqs (omega arith)))

-- ---- each call

pub audit_small : (tr pl : List ℕ) → Small (audit_tried tr pl)
unfolding audit_tried
audit_small tr pl =
    next_small (section_small tr pl)
    (λ ok. let sound = section_trace tr pl ok in
    next_small (flags_small tr (plan_flags tr pl) sound (flags_count tr pl ok))
    (λ _. next_small (row_small (not (eqb (stated_at pl) (plan_cost tr pl))) 16 0 (search rules) (λ _. none))
    (λ _. rents_small 0 (plan_rents tr pl)
    (omega (arith, few tr sound, length-listed (rent_in (rents_part (shape_of (requests_at tr)) pl)) (requests_at tr) 0)))))

pub judge_small : (tr pl : List ℕ) → Small (judge_tried tr pl)
unfolding judge_tried
judge_small tr pl =
    next_small (audit_small tr pl)
    (λ _. row_small (not (isℤ (plan_floor tr pl) (plan_cost tr pl))) 18 0 (search rules) (λ _. none))

pub floor_small : (tr rents : List ℕ) → Small (floor_tried tr rents)
unfolding floor_tried
floor_small tr rents =
    next_small (trace_small tr)
    (λ ok. next_small (count_small (requests_at tr) rents)
    (λ long. rents_small 0 rents (omega (arith, few tr ok, count_passes (requests_at tr) rents long))))

-- row 19
buffer_small : (n room : ℕ) → Small (buffer_tried n room)
buffer_small n room = row_small (ltb room (length_of (shape_of n))) 19 0 (search rules) (λ _. none)

pub write_small : (tr flags rents : List ℕ) (room : ℕ) → Small (write_tried tr flags rents room)
unfolding write_tried
write_small tr flags rents room =
    let n = requests_at tr in
    next_small (trace_small tr)
    (λ ok. next_small (count_small n flags)
    (λ long. next_small (count_small n rents)
    (λ long-rents. next_small (flags_small tr flags ok (count_passes n flags long))
    (λ _. next_small (rents_small 0 rents (omega (arith, few tr ok, count_passes n rents long-rents)))
    (λ _. buffer_small n room)))))

pub solve_small : (tr : List ℕ) (room : ℕ) → Small (solve_tried tr room)
unfolding solve_tried
solve_small tr room = next_small (trace_small tr) (λ _. buffer_small (requests_at tr) room)

pub ratio_small : (least measured : ℕ) → Small (ratio_tried least measured)
unfolding ratio_tried
ratio_small least measured =
    row_small (ltb max_plan_cost least || ltb max_plan_cost measured) 20 0 (search rules)
    (λ _. row_small (ltb measured least) 21 0 (search rules) (λ _. none))

-- ---- codes

-- a refusal that is given has a code
pub given_codable : {t : Tried} {number place : ℕ} → Small t → refusal number place ≡ t → Codable number place
given_codable none e = absurd (let z : ◌≡◌ {A = ℕ} 0 1 = cc in omega arith)
given_codable {number = number} {place = place} (one {number = n} {place = p} h) e =
    let a : number ≡ n = cc in
    let b : place ≡ p = cc in
    rw (a, b) h

-- so has one that is answered
pub answered_codable : {A : Type 0} {t : Tried} (a : A) {number place : ℕ} → Small t → refused number place ≡ answer t a → Codable number place
answered_codable a none e = absurd (let z : ◌≡◌ {A = ℕ} 0 1 = cc in omega arith)
answered_codable a {number = number} {place = place} (one {number = n} {place = p} h) e =
    let x : number ≡ n = cc in
    let y : place ≡ p = cc in
    rw (x, y) h

-- and so has every answer that is what such rows come to
pub answer_coded : {A : Type 0} {t : Tried} (a : A) (r : Result A Refusal) → Small t → answered r ≡ answer t a → Coded r
answer_coded a (Ok v) s e = tt
answer_coded a (Err r) s e = answered_codable a s e

-- and every call that answers no value
pub said_coded : {t : Tried} (r : Result Unit Refusal) → Small t → said r ≡ t → Coded r
said_coded (Ok v) s e = tt
said_coded (Err r) s e = given_codable s e

-- a code tells what the rows came to
pub code_tells : {a b : Tried} → Small a → Small b → code_of_tried a ≡ code_of_tried b → a ≡ b
code_tells none none e = refl
code_tells none (one h) e = absurd (omega (arith, h.some))
code_tells (one h) none e = absurd (omega (arith, h.some))
code_tells (one {number = n} {place = p} h) (one {number = m} {place = q} k) e =
    let x : n ≡ m = omega (arith, h.byte, k.byte) in
    let y : p ≡ q = omega (arith, h.byte, k.byte) in
    rw (x, y)
