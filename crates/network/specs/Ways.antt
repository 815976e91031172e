-- One slot more, on its way through the network: how many slots take each step of it, and where the new one stands. Nothing of this
-- is stored but the flags: the flow is what proves that they fit. Assumes nothing.
use Rattle.std.specs.Prelude.{◌≡◌, ℕ, zero, suc, ◌+◌, ◌-◌, ◌≤◌, ◌<◌, Bool, true, false, cond, ◌&&◌, eqb, ltb}
use Rattle.model.specs.Model.{Trace}
use Rattle.model.specs.Plans.{Flags}
use Rattle.model.specs.Links.{prev_of}
use Rattle.network.specs.Sound.{count, next, missed, struck, reads, after, fills_at, drops_at, crowd, node}

-- the steps that a slot may take: idle from point g to the next; from point t to request t by a fill, and back by a drop;
-- from request t to the next of its item, holding it
pub data Arc : Type 0 where
  idling filling dropping holding : ℕ → Arc

-- how many slots take each step
abbrev pub Flow : Type 0
Flow = Arc → ℕ

-- the node that a step leaves
abbrev pub src : Trace → Arc → ℕ
src tr (idling g) = g
src tr (filling t) = t
src tr (dropping t) = node tr t
src tr (holding t) = node tr t

-- the node that it comes to
abbrev pub dst : Trace → Arc → ℕ
dst tr (idling g) = suc g
dst tr (filling t) = node tr t
dst tr (dropping t) = t
dst tr (holding t) = node tr (next tr t)

-- the steps that there are
abbrev pub Is : Trace → Arc → Type 0
Is tr (idling g) = g < count tr
Is tr (filling t) = (t < count tr) × (reads tr t ≡ true)
Is tr (dropping t) = t < count tr
Is tr (holding t) = (t < count tr) × (next tr t < count tr)

-- one slot more may take it: only one slot holds an item
abbrev pub Room : Flow → Arc → Type 0
Room f (idling g) = Unit {0}
Room f (filling t) = Unit {0}
Room f (dropping t) = Unit {0}
Room f (holding t) = f (holding t) ≡ 0

-- the worth that a slot leaves, with what the step costs it
abbrev pub from : Trace → (P Q : ℕ → ℕ) → Arc → ℕ
from tr P Q (idling g) = P g
from tr P Q (filling t) = P t + tr.rules.fill
from tr P Q (dropping t) = Q t
from tr P Q (holding t) = Q t + struck tr (next tr t)

-- the worth that it comes to, with what the step saves
abbrev pub to : Trace → (P Q : ℕ → ℕ) → Arc → ℕ
to tr P Q (idling g) = P (suc g)
to tr P Q (filling t) = Q t
to tr P Q (dropping t) = P t
to tr P Q (holding t) = Q (next tr t) + missed tr (next tr t)

-- 1 where the two numbers are the same
abbrev pub on : (a b : ℕ) → ℕ
on a b = cond (eqb a b) 1 0

-- how many slots come to point g: m to the first, and those that idle to each other
abbrev pub inflow : (m : ℕ) → Flow → (g : ℕ) → ℕ
inflow m f zero = m
inflow m f (suc g) = f (idling g)

-- m slots have come from the first point, and all go on to the last but one, which stands at node v
pub record Balanced (tr : Trace) (m v : ℕ) (f : Flow) : Type 0 where
  pub requests : (t : ℕ) → t < count tr
      → f (holding (prev_of tr.reqs t)) + f (filling t) ≡ f (holding t) + f (dropping t) + on (node tr t) v
  pub points : (g : ℕ) → g < count tr → inflow m f g + f (dropping g) ≡ f (idling g) + f (filling g) + on g v

-- the flow of k slots that flags name
abbrev pub flow_of : Trace → (k : ℕ) → Flags → Flow
flow_of tr k x (idling g) = k - crowd tr x g
flow_of tr k x (filling t) = cond (fills_at tr x t) 1 0
flow_of tr k x (dropping t) = cond (drops_at tr x t) 1 0
flow_of tr k x (holding t) = cond (after x t) 1 0

-- one slot more than the k of the flags x₀ has come as far as node v, and the flags are x now; what lies below v in rank is as it was
pub record UnderWay (tr : Trace) (k : ℕ) (x₀ : Flags) (P Q rank : ℕ → ℕ) (v : ℕ) (x : Flags) : Type 0 where
  pub flow : Flow
  pub flags : (t : ℕ) → flow (holding t) ≡ cond (after x t) 1 0
  pub linked : (t : ℕ) → after x t ≡ true → next tr t < count tr
  pub fill_read : (t : ℕ) → t < count tr → 0 < flow (filling t) → reads tr t ≡ true
  pub feasible : (a : Arc) → Is tr a → (Room flow a → to tr P Q a ≤ from tr P Q a) × (0 < flow a → from tr P Q a ≤ to tr P Q a)
  pub balanced : Balanced tr (suc k) v flow
  pub fresh : (a : Arc) → rank (src tr a) ≤ rank v → rank (dst tr a) ≤ rank v → flow a ≡ flow_of tr k x₀ a

-- the flags with request t's flag set to b
abbrev pub set_flag : Flags → (t : ℕ) → (b : Bool) → Flags
set_flag x t b zero = x zero
set_flag x t b (suc s) = cond (eqb s t) b (x (suc s))

-- the flags after a hop from v to u: from a request to a later one its flag is set, from a request to an earlier one that one's flag
-- is cleared, and no other hop changes any
abbrev pub moved : Trace → (v u : ℕ) → Flags → Flags
moved tr v u x =
    cond (ltb (count tr) v && ltb (count tr) u)
    (cond (ltb v u) (set_flag x (v - (count tr + 1)) true) (set_flag x (u - (count tr + 1)) false))
    x
