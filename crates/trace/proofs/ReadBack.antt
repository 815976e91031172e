-- The bytes of a trace within the limits pass rows 1 to 8, and the trace that they hold is that trace. Assumes nothing.
use mathlib.Core.Path.{◌≡◌, refl, ◌∙◌, ap}
use Prim.Native.Nat.{ℕ, zero, suc, ◌+◌, ◌*◌, ◌≤◌, ◌<◌}
use native.Mathlib.Omega.{arith}
use mathlib.Core.Bool.{Bool, true, false, cond}
use mathlib.Core.List.{List, [], ◌∷◌, ◌++◌}
use lib.ListN.{length, get_or, drop, length-append}
use lib.Dec.{eqb}
use borrow.Author.Tests.{le-ltb, eq-eqb}
use Rattle.fields.specs.Bytes.{num_at, bytes_of}
use Rattle.fields.proofs.Bytes.{num_after}
use Rattle.model.specs.Model.{Request, Trace}
use Rattle.model.specs.Plans.{request_at}
use Rattle.model.specs.Links.{listed}
use Rattle.model.specs.Numbers.{max_slots, max_requests, max_cost, CostsWithin, Within}
use Rattle.model.specs.Refusals.{passes}
use Rattle.trace.specs.TraceFile.{slots_at, requests_at, fill_at, kind_at, zero_at, cost_at, marked_trace, records_tried, trace_tried, request_in, trace_in, length_at, record_bytes, records_bytes, trace_bytes}

-- ---- one record

-- eight bytes to a record
length-record : (r : Request) → length (record_bytes r) ≡ 8
unfolding bytes_of
length-record r = refl

-- a byte is a number in one byte
byte_num : (at : ℕ) (l : List ℕ) → get_or l at 0 ≡ num_at 1 at l
unfolding num_at
byte_num at l = omega arith

-- what a record's bytes hold
record Holds (r : Request) (l : List ℕ) (at : ℕ) : Type 0 where
  item : num_at 2 at l ≡ r.item
  kind : num_at 1 (at + 2) l ≡ cond r.write 1 0
  zeros : num_at 1 (at + 3) l ≡ 0
  cost : num_at 4 (at + 4) l ≡ r.cost

record_holds : (r : Request) (q : List ℕ) → r.item ≤ 65535 → r.cost ≤ max_cost → Holds r (record_bytes r ++ q) 0
unfolding num_at bytes_of
record_holds r q i c =
    record {
      item = omega arith;
      kind = omega arith;
      zeros = omega arith;
      cost = omega arith;
    }

-- ---- record after record

-- eight bytes to each
pub length-records : (rs : List Request) → length (records_bytes rs) ≡ 8 * length rs
length-records [] = omega arith
length-records (r ∷ rs) =
    length-append (record_bytes r) (records_bytes rs) ∙ omega (arith, length-record r, length-records rs)

-- the bytes from record t on
from_record : (rs : List Request) (t k j : ℕ) → t < length rs → num_at k (8 * t + j) (records_bytes rs) ≡ num_at k j (record_bytes (request_at rs t) ++ records_bytes (drop (suc t) rs))
from_record [] t k j h = absurd (omega arith)
from_record (r ∷ rs) zero k j h = let e : 8 * 0 + j ≡ j = omega arith in rw e
from_record (r ∷ rs) (suc t) k j h =
    let e : 8 * suc t + j ≡ length (record_bytes r) + (8 * t + j) = omega (arith, length-record r) in
    rw e (num_after (record_bytes r) k (8 * t + j) (records_bytes rs) ∙ from_record rs t k j (omega arith))

-- costs within a limit are so at each place
pub cost_within : (c : ℕ) (rs : List Request) (t : ℕ) → CostsWithin c rs → (request_at rs t).cost ≤ c
cost_within c [] t h = omega arith
cost_within c (r ∷ rs) zero h = h.0
cost_within c (r ∷ rs) (suc t) h = cost_within c rs t h.1

-- ---- the whole file

-- the bytes before the records
head_bytes : Trace → List ℕ
head_bytes T =
    67 ∷ 84 ∷ 82 ∷ bytes_of 2 1 ++ T.rules.slots ∷ bytes_of 2 (length T.reqs) ++ bytes_of 4 T.rules.fill

head_then_records : (T : Trace) → trace_bytes T ≡ head_bytes T ++ records_bytes T.reqs
unfolding bytes_of head_bytes
head_then_records T = refl

length-head : (T : Trace) → length (head_bytes T) ≡ 12
unfolding bytes_of head_bytes
length-head T = refl

-- a number of record t stands in the file where it stands in the record
in_file : (T : Trace) (t k j : ℕ) → t < length T.reqs → num_at k (12 + 8 * t + j) (trace_bytes T) ≡ num_at k j (record_bytes (request_at T.reqs t) ++ records_bytes (drop (suc t) T.reqs))
in_file T t k j h =
    let e : 12 + 8 * t + j ≡ length (head_bytes T) + (8 * t + j) = omega (arith, length-head T) in
    rw (head_then_records T, e) (num_after (head_bytes T) k (8 * t + j) (records_bytes T.reqs) ∙ from_record T.reqs t k j h)

-- records that each pass pass
pub records_pass : (k t : ℕ) (tr : List ℕ) → ((s : ℕ) → s < t + k → (kind_at tr s ≤ 1) × (zero_at tr s ≡ 0) × (cost_at tr s ≤ max_cost)) → records_tried k t tr ≡ passes
records_pass zero t tr h = refl
records_pass (suc k) t tr h =
    let now = h t (omega arith) in
    rw (le-ltb _ _ now.0, eq-eqb _ _ now.1, le-ltb _ _ now.2) (records_pass k (suc t) tr (λ s l. h s (omega arith)))

-- a list is what stands at each of its places
pub listed_back : {A : Type 0} (f : ℕ → A) (d : A) (l : List A) (t : ℕ) → ((i : ℕ) → i < length l → f (t + i) ≡ get_or l i d) → listed f (length l) t ≡ l
listed_back f d [] t h = refl
listed_back f d (x ∷ l) t h =
    let z : t + 0 ≡ t = omega arith in
    let first : f t ≡ x = rw z at (h 0 (omega arith)) in
    let later : listed f (length l) (suc t) ≡ l = listed_back f d l (suc t) (λ i b. let e : suc t + i ≡ t + suc i = omega arith in rw e (h (suc i) (omega arith))) in
    rw (first, later)

-- the kind tells whether it is a write
kind_back : (w : Bool) → eqb (cond w 1 0) 1 ≡ w
kind_back true = refl
kind_back false = refl

kind_small : (w : Bool) → cond w 1 0 ≤ 1
kind_small true = omega arith
kind_small false = omega arith

-- a file that meets each row passes
pub all_pass : (tr : List ℕ) → marked_trace tr ≡ true → slots_at tr ≤ max_slots → requests_at tr ≤ max_requests → fill_at tr ≤ max_cost → length tr ≡ length_at tr → records_tried (requests_at tr) 0 tr ≡ passes → trace_tried tr ≡ passes
unfolding trace_tried
all_pass tr marked slots requests fill long records =
    let whole : 12 ≤ length tr = omega arith in
    rw
    (le-ltb _ _ whole, marked, le-ltb _ _ slots, le-ltb _ _ requests, le-ltb _ _ fill, eq-eqb _ _ long)
    records

-- a record that holds a request is read as it
request_back : (tr : List ℕ) (t : ℕ) (r : Request) → Holds r tr (12 + 8 * t) → request_in tr t ≡ r
request_back tr t r h = rw (byte_num (12 + 8 * t + 2) tr, h.kind, kind_back r.write, h.item, h.cost)

-- a file that holds the numbers and requests of a trace is read as it
trace_back : (tr : List ℕ) (T : Trace) → slots_at tr ≡ T.rules.slots → fill_at tr ≡ T.rules.fill → requests_at tr ≡ length T.reqs → ((t : ℕ) → t < length T.reqs → Holds (request_at T.reqs t) tr (12 + 8 * t)) → trace_in tr ≡ T
trace_back tr T slots fill n each =
    let reqs : listed (request_in tr) (length T.reqs) 0 ≡ T.reqs =
    listed_back (request_in tr) (record { write = false; item = 0; cost = 0 }) T.reqs 0 (λ t h. let z : 0 + t ≡ t = omega arith in rw z (request_back tr t (request_at T.reqs t) (each t h))) in
    rw (slots, fill, n, reqs)

module _ (T : Trace) (w : Within T) (small : (t : ℕ) → (request_at T.reqs t).item ≤ 65535) where
  -- w, n and F are read back
  requests_back : requests_at (trace_bytes T) ≡ length T.reqs
  unfolding num_at bytes_of
  requests_back = omega (arith, w.requests)

  fill_back : fill_at (trace_bytes T) ≡ T.rules.fill
  unfolding num_at bytes_of
  fill_back = omega (arith, w.fill)

  slots_back : slots_at (trace_bytes T) ≡ T.rules.slots
  unfolding bytes_of
  slots_back = refl

  marked_back : marked_trace (trace_bytes T) ≡ true
  unfolding num_at bytes_of
  marked_back = refl

  length_back : length (trace_bytes T) ≡ 12 + 8 * length T.reqs
  length_back =
      ap length (head_then_records T)
      ∙ length-append (head_bytes T) (records_bytes T.reqs)
      ∙ omega (arith, length-head T, length-records T.reqs)

  -- each record holds its request
  record_back : (t : ℕ) → t < length T.reqs → Holds (request_at T.reqs t) (trace_bytes T) (12 + 8 * t)
  record_back t h =
      let r = request_at T.reqs t in
      let q = records_bytes (drop (suc t) T.reqs) in
      let there = record_holds r q (small t) (cost_within max_cost T.reqs t w.costs) in
      let z : 12 + 8 * t + 0 ≡ 12 + 8 * t = omega arith in
      record {
        item = (rw z at (in_file T t 2 0 h)) ∙ there.item;
        kind = in_file T t 1 2 h ∙ there.kind;
        zeros = in_file T t 1 3 h ∙ there.zeros;
        cost = in_file T t 4 4 h ∙ there.cost;
      }

  -- the bytes of a trace within the limits have none of refusals 1 to 8
  pub bytes_sound : trace_tried (trace_bytes T) ≡ passes
  bytes_sound =
      let tr = trace_bytes T in
      let n = requests_back in
      all_pass tr marked_back (rw slots_back w.slots) (rw n w.requests) (rw fill_back w.fill) (rw n length_back)
      (records_pass (requests_at tr) 0 tr
      (λ t h. let r = record_back t (omega arith) in
      (rw (byte_num (12 + 8 * t + 2) tr, r.kind) (kind_small (request_at T.reqs t).write), byte_num (12 + 8 * t + 3) tr ∙ r.zeros, rw r.cost (cost_within max_cost T.reqs t w.costs))))

  -- and hold that trace
  pub bytes_read_back : trace_in (trace_bytes T) ≡ T
  bytes_read_back = trace_back (trace_bytes T) T slots_back fill_back requests_back record_back
