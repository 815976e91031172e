-- Laws that a reader in doubt asks of the definitions: what is allowed, what is not, and that flags do not name all that is allowed.
-- Assumes nothing.
use mathlib.Core.Path.{◌≡◌, refl, sym, ◌∙◌}
use Prim.Native.Nat.{ℕ, zero, suc, ◌+◌, ◌≤◌, ◌<◌}
use native.Mathlib.Omega.{arith}
use mathlib.Core.Bool.{true, false, cond, ◌&&◌, not, false≢true}
use mathlib.Core.List.{List, [], ◌∷◌}
use lib.ListN.{length}
use lib.Dec.{eqb}
use borrow.Author.Tests.{eqb-true, ne_eqb}
use Rattle.model.specs.Model.{Rules, Request, Trace, Contents, Distinct, AtMost, may, AllowedFrom, Allowed, charge, sum_from, cost, leasts, rents_all, floor, Least}
use Rattle.model.specs.Plans.{Flags, flags_in, request_at, contents, occupancy, SoundFlags}
use Rattle.model.proofs.Sums.{split}
use Rattle.model.proofs.Sets.{at_most}
use Rattle.model.proofs.Plans.{both, flags_name_allowed}
use Rattle.model.proofs.Unique.{floor_gives_least}

-- ---- holding nothing

-- no item in any gap
abbrev pub nothing : Contents
nothing g i = false

-- the costs of the reads
abbrev pub read_costs : List Request → ℕ
read_costs [] = 0
read_costs (r ∷ rs) = cond r.write 0 r.cost + read_costs rs

none_in : (w : ℕ) → AtMost w (λ i. false)
none_in w [] d a = omega arith
none_in w (i ∷ l) d a = absurd (false≢true a.0)

nothing_from : (ru : Rules) (t : ℕ) (rs : List Request) → AllowedFrom ru t rs nothing
nothing_from ru t [] = tt
nothing_from ru t (r ∷ rs) = ((λ i h. absurd (false≢true h)), none_in ru.slots, nothing_from ru (suc t) rs)

-- holding nothing is allowed, whatever the trace
pub nothing_allowed : (tr : Trace) → Allowed tr nothing
nothing_allowed tr = record { empty = λ i. refl; steps = nothing_from tr.rules 0 tr.reqs }

nothing_sum : (ru : Rules) (t : ℕ) (rs : List Request) → sum_from (charge ru) t rs nothing ≡ read_costs rs
nothing_sum ru t [] = refl
nothing_sum ru t (r ∷ rs) =
    split r.write
    (λ e. rw e (omega (arith, nothing_sum ru (suc t) rs)))
    (λ e. rw e (omega (arith, nothing_sum ru (suc t) rs)))

-- and every read pays its cost
pub nothing_costs : (tr : Trace) → cost tr nothing ≡ read_costs tr.reqs
unfolding cost
nothing_costs tr = nothing_sum tr.rules 0 tr.reqs

-- ---- each step of allowed contents, by its number

-- what `Allowed` asks of request t + 1
pub record StepAt (ru : Rules) (t : ℕ) (r : Request) (S : Contents) : Type 0 where
  pub held : (i : ℕ) → S (suc t) i ≡ true → may ru t r i (S t i) ≡ true
  pub room : AtMost ru.slots (S (suc t))

step_from : (ru : Rules) (S : Contents) (t k n : ℕ) (rs : List Request) → AllowedFrom ru t rs S → k < length rs → n ≡ t + k
    → StepAt ru n (request_at rs k) S
step_from ru S t zero n [] a l e = absurd (omega arith)
step_from ru S t (suc k) n [] a l e = absurd (omega arith)
step_from ru S t zero n (r ∷ rs) a l e = let q : n ≡ t = omega arith in rw q (record { held = a.0; room = a.1 })
step_from ru S t (suc k) n (r ∷ rs) a l e = step_from ru S (suc t) k n rs a.2 (omega arith) (omega arith)

pub step_at : (tr : Trace) (S : Contents) → Allowed tr S → (t : ℕ) → t < length tr.reqs
    → StepAt tr.rules t (request_at tr.reqs t) S
step_at tr S a t l = step_from tr.rules S 0 t t tr.reqs a.steps l (omega arith)

-- a write brings nothing in
pub write_brings_nothing : (tr : Trace) (S : Contents) → Allowed tr S → (t i : ℕ) → t < length tr.reqs
    → (request_at tr.reqs t).write ≡ true → S t i ≡ false → S (suc t) i ≡ false
write_brings_nothing tr S a t i l w b =
    split (S (suc t) i)
    (λ e. absurd (false≢true (rw (w, b) at ((step_at tr S a t l).held i e))))
    (λ e. e)

-- a read brings in no item but its own
pub read_brings_its_own : (tr : Trace) (S : Contents) → Allowed tr S → (t i : ℕ) → t < length tr.reqs
    → ((request_at tr.reqs t).item ≡ i → ⊥) → S t i ≡ false → S (suc t) i ≡ false
read_brings_its_own tr S a t i l n b =
    split (S (suc t) i)
    (λ e. let k : (not (request_at tr.reqs t).write && eqb (request_at tr.reqs t).item i) ≡ true
    = rw b at ((step_at tr S a t l).held i e) in
    absurd (n (eqb-true _ i (both (not (request_at tr.reqs t).write) _ k).1)))
    (λ e. e)

-- ---- no gap holds more items than there are slots

-- in every gap
pub room_in : (tr : Trace) (S : Contents) → Allowed tr S → (g : ℕ) → g ≤ length tr.reqs → AtMost tr.rules.slots (S g)
room_in tr S a zero l [] d h = omega arith
room_in tr S a zero l (i ∷ m) d h = absurd (false≢true (sym (a.empty i) ∙ h.0))
room_in tr S a (suc g) l m d h = (step_at tr S a g l).room m d h

-- three items in one gap are too many for two slots
pub three_not_in_two : (tr : Trace) (S : Contents) → tr.rules.slots ≡ 2 → (g : ℕ) → g ≤ length tr.reqs
    → (i j k : ℕ) → (i ≡ j → ⊥) → (i ≡ k → ⊥) → (j ≡ k → ⊥) → S g i ≡ true → S g j ≡ true → S g k ≡ true → Allowed tr S → ⊥
three_not_in_two tr S two g l i j k ij ik jk hi hj hk a =
    let d : Distinct (i ∷ j ∷ k ∷ []) = (rw (ne_eqb i j ij, ne_eqb i k ik), (rw (ne_eqb j k jk), (refl, tt))) in
    let n : 3 ≤ tr.rules.slots = room_in tr S a g l (i ∷ j ∷ k ∷ []) d (hi, (hj, (hk, tt))) in
    omega arith

-- ---- an item dropped halfway

-- a read of item 0, of item 1, and of item 0 again, with one slot
abbrev pub thrice : Trace
thrice = record {
  rules = record { slots = 1; fill = 4 };
  reqs = record { write = false; item = 0; cost = 10 } ∷ record { write = false; item = 1; cost = 10 } ∷ record { write = false; item = 0; cost = 10 } ∷ [];
}

-- item 0 is held after its first read, and dropped before its next
abbrev pub halfway : Contents
halfway g i = eqb g 1 && eqb i 0

halfway_room : (g : ℕ) → AtMost 1 (halfway g)
halfway_room g =
    at_most 1 (halfway g) (0 ∷ [])
    (λ i h. rw (both (eqb g 1) (eqb i 0) h).1)
    (split (eqb g 1) (λ e. rw e (omega arith)) (λ e. rw e (omega arith)))

pub halfway_allowed : Allowed thrice halfway
halfway_allowed = record {
  empty = λ i. refl;
  steps = (
    (λ i h. rw (eqb-true i 0 h)),
    halfway_room 1,
    ((λ i h. absurd (false≢true h)), halfway_room 2, ((λ i h. absurd (false≢true h)), halfway_room 3, tt)),
  );
}

-- no flags name these contents: what holds over allowed contents holds over more than plans
pub no_flags_halfway : (x : Flags) → ((g i : ℕ) → contents thrice.reqs x g i ≡ halfway g i) → ⊥
no_flags_halfway x h = false≢true (sym (h 2 0) ∙ h 1 0)

-- ---- the laws at work: the trace of document 01's program has least cost 19

-- a read at 10, a write at 7 and a read at 10, all of item 5, with one slot and fill price 2
abbrev pub small : Trace
small = record {
  rules = record { slots = 1; fill = 2 };
  reqs = record { write = false; item = 5; cost = 10 } ∷ record { write = true; item = 5; cost = 7 } ∷ record { write = false; item = 5; cost = 10 } ∷ [];
}

-- its plan keeps the item to its last request
abbrev pub small_flags : Flags
small_flags = flags_in (1 ∷ 1 ∷ 0 ∷ [])

pub small_sound : SoundFlags small small_flags
small_sound = record { stand = ((λ e. refl), ((λ e. refl), ((λ e. absurd (false≢true e)), tt))); room = room }
  where
    room : (g : ℕ) → g ≤ 3 → occupancy small.reqs (contents small.reqs small_flags) g ≤ 1
    room zero l = omega arith
    room (suc zero) l = omega arith
    room (suc (suc zero)) l = omega arith
    room (suc (suc (suc zero))) l = omega arith
    room (suc (suc (suc (suc g)))) l = absurd (omega arith)

pub small_least : Least small 19
unfolding cost floor leasts rents_all
small_least =
    floor_gives_least small (λ g. 0) (contents small.reqs small_flags) (flags_name_allowed small small_flags small_sound) refl
