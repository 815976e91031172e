-- The audit's answer with its totals as a list: a refusal is the same.
use mathlib.Core.Path.{◌≡◌, refl}
use mathlib.Core.List.{List, [], ◌∷◌}
use Prim.Native.Nat.{ℕ}
use Rattle.std.specs.Prelude.{Result, Ok, Err}
use Rattle.std.specs.Result.{MatchResult, IsOkAnd}
use Rattle.model.specs.Refusals.{answered}
use Rattle.model.specs.declared.Refusal.{Refusal}
use Rattle.replay.specs.Replay.{Totals}
use Rattle.capi.specs.Codes.{Coded, value_or, totals_or}

abbrev pub Listed : Result Totals Refusal → Result (List ℕ) Refusal → Type 0
Listed r m = MatchResult r (λ s. IsOkAnd m (λ l. l ≡ s.total ∷ s.misses ∷ s.fills ∷ s.strikes ∷ [])) (λ e. m ≡ Err e)

-- so it has a code
pub listed_coded : (r : Result Totals Refusal) (m : Result (List ℕ) Refusal) → Listed r m → Coded r → Coded m
listed_coded r (Ok y) h k = tt
listed_coded (Ok x) (Err e) h k = absurd h
listed_coded (Err e) (Err f) h k = let q : f ≡ e = cc in rw q k

-- and leaves the totals
pub listed_totals : (r : Result Totals Refusal) (m : Result (List ℕ) Refusal) (old : List ℕ) → Listed r m
    → value_or (answered m) old ≡ totals_or (answered r) old
listed_totals (Ok s) (Ok l) old h = h
listed_totals (Ok s) (Err e) old h = absurd h
listed_totals (Err e) m old h = rw h refl
