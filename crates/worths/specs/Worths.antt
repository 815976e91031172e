-- The worths of points and requests, in a list: of a trace of n requests point g stands at place g, up to point n, and request t at
-- place n + 1 + t. Requests are counted from 0. Assumes nothing.
use Rattle.std.specs.Prelude.{◌≡◌, ℕ, suc, ◌+◌, ◌*◌, ◌-◌, ◌≤◌, ◌<◌, min, max, cond, ◌&&◌, List, eqb, ltb, length, get_or}
use Rattle.model.specs.Numbers.{max_requests}
use Rattle.trace.specs.TraceFile.{requests_at, fill_at, kind_at, cost_at}

-- the greatest worth that fits four bytes
abbrev pub max_worth : ℕ
max_worth = 4294967295

-- ---- the start

-- what an item that is worth q after request u is worth before it: a write takes its cost, a read saves it
abbrev pub gain_by : (trace : List ℕ) → (u q : ℕ) → ℕ
gain_by tr u q = cond (eqb (kind_at tr u) 1) (q - cost_at tr u) (min max_worth (q + cost_at tr u))

-- what holding request t's item is worth by its next request, as the list of next requests has it; 0 where that is no later one
abbrev pub ahead_by : (trace : List ℕ) → (n : ℕ) → (next worth : List ℕ) → (t : ℕ) → ℕ
ahead_by tr n next worth t =
    cond (ltb t (get_or next t 0) && ltb (get_or next t 0) n) (gain_by tr (get_or next t 0) (get_or worth (n + 1 + get_or next t 0) 0)) 0

-- what an empty slot is worth before request t, where it is worth `after` behind it and a held item q
abbrev pub point_by : (trace : List ℕ) → (t after q : ℕ) → ℕ
point_by tr t after q = cond (eqb (kind_at tr t) 1) after (max after (q - fill_at tr))

-- the worths of n requests, told from the last one back; the places after them are kept
pub record Told (tr : List ℕ) (n : ℕ) (next old new : List ℕ) : Type 0 where
  pub last : get_or new n 0 ≡ 0
  pub request : (t : ℕ) → t < n → get_or new (n + 1 + t) 0 ≡ max (get_or new (suc t) 0) (ahead_by tr n next new t)
  pub point : (t : ℕ) → t < n → get_or new t 0 ≡ point_by tr t (get_or new (suc t) 0) (get_or new (n + 1 + t) 0)
  pub kept : (v : ℕ) → 2 * n < v → get_or new v 0 ≡ get_or old v 0
  pub long : length new ≡ length old

-- the worths that fit no flags and no slots; of a trace that has too many requests all is kept
pub record Started (tr next old new : List ℕ) : Type 0 where
  pub told : requests_at tr ≤ max_requests → Told tr (requests_at tr) next old new
  pub over : max_requests < requests_at tr → new ≡ old

-- ---- worths raised

-- a worth grown by what its distance is short of d
abbrev pub grown_by : (dist d worth : ℕ) → ℕ
grown_by dist d worth = min max_worth (worth + (d - dist))

-- each worth before place `nodes` has grown, and the others are kept
pub record Raised (dist : List ℕ) (nodes d : ℕ) (old new : List ℕ) : Type 0 where
  pub long : length new ≡ length old
  pub grown : (v : ℕ) → v < nodes → v < 2050 → get_or new v 0 ≡ grown_by (get_or dist v 0) d (get_or old v 0)
  pub kept : (v : ℕ) → min nodes 2050 ≤ v → get_or new v 0 ≡ get_or old v 0

-- ---- rents

-- the first n places hold what each point is worth more than the next, and the others are kept
pub record Rented (worth : List ℕ) (n : ℕ) (old new : List ℕ) : Type 0 where
  pub long : length new ≡ length old
  pub named : (g : ℕ) → g < n → g < max_requests → get_or new g 0 ≡ get_or worth g 0 - get_or worth (suc g) 0
  pub kept : (g : ℕ) → min n max_requests ≤ g → get_or new g 0 ≡ get_or old g 0
