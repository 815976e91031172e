-- What the raising of worths, the walk and each slot more ask and promise of the solver's lists. Assumes nothing.
use Rattle.std.specs.Prelude.{◌≡◌, ℕ, suc, ◌+◌, ◌*◌, ◌-◌, ◌≤◌, ◌<◌, cond, ◌&&◌, List, ltb, length, get_or, set}
use Rattle.model.specs.Model.{Trace}
use Rattle.model.specs.Numbers.{max_rent}
use Rattle.model.specs.Plans.{flags_in}
use Rattle.trace.specs.TraceFile.{trace_in}
use Rattle.network.specs.Sound.{count, Sound, Residual}
use Rattle.steps.specs.Lists.{Lists, points_in, requests_in, Fits}
use Rattle.steps.specs.Search.{Reached}

-- ---- one slot more

-- each worth before place `nodes` has grown by what its distance is short of d
pub record Grown (dist : List ℕ) (nodes d : ℕ) (old new : List ℕ) : Type 0 where
  pub long : length new ≡ length old
  pub grown : (v : ℕ) → v < nodes → get_or new v 0 ≡ get_or old v 0 + (d - get_or dist v 0)

-- the flags after a hop from node v to node u of a trace of n requests
abbrev pub hop_flags : (n v u : ℕ) → List ℕ → List ℕ
hop_flags n v u l = cond (ltb n v && ltb n u) (cond (ltb v u) (set l (v - n - 1) 1) (set l (u - n - 1) 0)) l

-- a hop from node v to node u that one slot more can take, at no loss of worth, to a node that was reached before
pub record Tight (tr : Trace) (k : ℕ) (flags worth rank : List ℕ) (v u : ℕ) : Type 0 where
  pub way : Residual tr k (flags_in flags) (points_in worth) (requests_in (count tr) worth) v u 0
  pub inside : u < suc (2 * count tr)
  pub reached : Reached rank u
  pub lower : get_or rank u 0 < get_or rank v 0

-- a way of such hops from the first point to the last
pub record Trail (tr : Trace) (n k : ℕ) (flags worth hop : List ℕ) : Type 0 where
  pub rank : List ℕ
  pub size : n ≡ count tr
  pub requests : n ≤ 1024
  pub sound : Sound tr k (flags_in flags) (points_in worth) (requests_in (count tr) worth)
  pub values : (t : ℕ) → get_or flags t 0 ≤ 1
  pub source : Reached rank 0
  pub hops : (v : ℕ) → v < suc (2 * count tr) → Reached rank v → (v ≡ count tr → ⊥) → Tight tr k flags worth rank v (get_or hop v 0)
  pub flags_long : length flags ≡ 1024
  pub hop_long : length hop ≡ 2050

-- flags that fit k slots by these worths
pub record Walked (tr : Trace) (k : ℕ) (flags worth : List ℕ) : Type 0 where
  pub sound : Sound tr k (flags_in flags) (points_in worth) (requests_in (count tr) worth)
  pub values : (t : ℕ) → get_or flags t 0 ≤ 1
  pub flags_long : length flags ≡ 1024

-- a sound trace of n requests with k slots laid
pub record Laid (trace : List ℕ) (n fill k : ℕ) (worth flags from charges : List ℕ) : Type 0 where
  pub lists : Lists trace n fill from charges
  pub fits : Fits (trace_in trace) k flags worth
  pub few : k ≤ 64
  pub worth_long : length worth ≡ 2050
  pub flags_long : length flags ≡ 1024

-- every rent that the worths of n + 1 points name is within the limit
pub record Cheap (n : ℕ) (worth : List ℕ) : Type 0 where
  pub falls : (g : ℕ) → g < n → get_or worth (suc g) 0 ≤ get_or worth g 0
  pub limit : (g : ℕ) → g < n → get_or worth g 0 ≤ max_rent + get_or worth (suc g) 0
