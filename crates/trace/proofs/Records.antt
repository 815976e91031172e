-- Rows 7 and 8 record by record: what trying one record does to what is left. Assumes nothing.
use mathlib.Core.Path.{◌≡◌, refl, sym, ◌∙◌, ap}
use Prim.Native.Nat.{ℕ, suc, ◌+◌, ◌-◌, ◌<◌}
use native.Mathlib.Numerals.{add-one}
use native.Mathlib.Omega.{arith}
use mathlib.Core.Bool.{◌||◌, not}
use mathlib.Core.List.{List}
use lib.Dec.{eqb, ltb}
use Rattle.model.specs.Numbers.{max_cost}
use Rattle.model.specs.Refusals.{Tried, row, next}
use Rattle.trace.specs.TraceFile.{kind_at, zero_at, cost_at, records_tried}

-- rows 7 and 8 are tried record by record, 7 first: an 8 comes before the 7 of a later record
pub record_by_record : (k t : ℕ) (tr : List ℕ) → records_tried (suc k) t tr ≡ row (ltb 1 (kind_at tr t) || not (eqb (zero_at tr t) 0)) 7 (suc t) (row (ltb max_cost (cost_at tr t)) 8 (suc t) (records_tried k (suc t) tr))
record_by_record k t tr = refl

-- what record t comes to, and then the records after it, is what the records from t on come to
pub record_then : (tr : List ℕ) (n t : ℕ) (one whole : Tried) → t < n → ((k : ℕ) → next one (records_tried k (suc t) tr) ≡ records_tried (suc k) t tr) → records_tried (n - t) t tr ≡ whole → next one (records_tried (n - (t + 1)) (t + 1) tr) ≡ whole
record_then tr n t one whole lt step h =
    let e : n - t ≡ suc (n - suc t) = omega arith in
    rw add-one (step (n - suc t) ∙ ap (λ (k : ℕ). records_tried k t tr) (sym e) ∙ h)
