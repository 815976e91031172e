-- The worths that the solver keeps beside its flags, and the ways that its search may go. Requests are counted from 0, and point g
-- stands before request g: gap g + 1 of the paper is the step from point g to point g + 1. Assumes nothing.
use Rattle.std.specs.Prelude.{◌≡◌, ℕ, suc, ◌+◌, ◌-◌, ◌≤◌, ◌<◌, min, max, Bool, true, false, cond, ◌&&◌, not, List, [], ◌∷◌, length, ltb}
use Rattle.model.specs.Model.{Request, Trace, Rents}
use Rattle.model.specs.Plans.{Flags, request_at, contents, occupancy}
use Rattle.model.specs.Links.{next_of, prev_of}

-- how many requests there are
abbrev pub count : Trace → ℕ
count tr = length tr.reqs

-- the request after which request t's item comes again; `count` or more where there is none
abbrev pub next : Trace → (t : ℕ) → ℕ
next tr t = next_of tr.reqs t

-- what a request pays if its item is not held: a read's cost
abbrev pub read_cost : Request → ℕ
read_cost r = cond r.write 0 r.cost

-- what a request pays if its item is held: a write's cost
abbrev pub write_cost : Request → ℕ
write_cost r = cond r.write r.cost 0

-- `readCost` of request t
abbrev pub missed : Trace → (t : ℕ) → ℕ
missed tr t = read_cost (request_at tr.reqs t)

-- `writeCost` of request t
abbrev pub struck : Trace → (t : ℕ) → ℕ
struck tr t = write_cost (request_at tr.reqs t)

-- whether request t is a read, which may fill
abbrev pub reads : Trace → (t : ℕ) → Bool
reads tr t = not (request_at tr.reqs t).write

-- request t's flag
abbrev pub after : Flags → (t : ℕ) → Bool
after x t = x (suc t)

-- the flag of the request before t of t's item: whether the item is held before t
abbrev pub before : Trace → Flags → (t : ℕ) → Bool
before tr x t = x (suc (prev_of tr.reqs t))

-- the item comes at request t
abbrev pub fills_at : Trace → Flags → (t : ℕ) → Bool
fills_at tr x t = not (before tr x t) && after x t

-- the item goes at request t
abbrev pub drops_at : Trace → Flags → (t : ℕ) → Bool
drops_at tr x t = before tr x t && not (after x t)

-- how many items are held between point g and point g + 1
abbrev pub crowd : Trace → Flags → (g : ℕ) → ℕ
crowd tr x g = occupancy tr.reqs (contents tr.reqs x) (suc g)

-- no flags at all
abbrev pub no_flags : Flags
no_flags t = false

-- flags x at k slots, the worth P of an empty slot at each point and the worth Q of holding its item after each request fit together
pub record Sound (tr : Trace) (k : ℕ) (x : Flags) (P Q : ℕ → ℕ) : Type 0 where
  -- a flag is 1 only where there is a next request
  pub linked : (t : ℕ) → after x t ≡ true → next tr t < count tr
  -- a gap holds no more items than there are slots; an empty slot's worth never rises, and does not fall where a slot is free
  pub room : (g : ℕ) → g < count tr → crowd tr x g ≤ k
  pub idle : (g : ℕ) → g < count tr → P (suc g) ≤ P g
  pub free : (g : ℕ) → g < count tr → crowd tr x g < k → P g ≡ P (suc g)
  -- a held item is worth no less than an empty slot, and no more where it goes
  pub down : (t : ℕ) → t < count tr → P t ≤ Q t
  pub drops : (t : ℕ) → t < count tr → drops_at tr x t ≡ true → Q t ≡ P t
  -- after a read it is worth a fill more at most, and just that where it comes; it comes at reads only
  pub up : (t : ℕ) → t < count tr → reads tr t ≡ true → Q t ≤ P t + tr.rules.fill
  pub fills : (t : ℕ) → t < count tr → fills_at tr x t ≡ true → Q t ≡ P t + tr.rules.fill
  pub fill_read : (t : ℕ) → t < count tr → fills_at tr x t ≡ true → reads tr t ≡ true
  -- an item that is not held up to its next request would gain nothing by it, and one that is held loses nothing
  pub apart : (t : ℕ) → t < count tr → next tr t < count tr → after x t ≡ false
      → Q (next tr t) + missed tr (next tr t) ≤ Q t + struck tr (next tr t)
  pub held : (t : ℕ) → t < count tr → next tr t < count tr → after x t ≡ true
      → Q t + struck tr (next tr t) ≤ Q (next tr t) + missed tr (next tr t)

-- the rents that worths name: what a point is worth more than the next
abbrev pub Named : Trace → (P : ℕ → ℕ) → Rents → Type 0
Named tr P rent = (g : ℕ) → g < count tr → rent (suc g) ≡ P g - P (suc g)

-- ---- the ways that one slot more may take

-- the node of request t; point g is node g, and the last point, `count`, is where a slot ends
abbrev pub node : Trace → (t : ℕ) → ℕ
node tr t = count tr + 1 + t

-- from node v to node u one slot more can go, with the flags x of k slots, and loses len of its worth by it
pub data Residual (tr : Trace) (k : ℕ) (x : Flags) (P Q : ℕ → ℕ) : (v u len : ℕ) → Type 0 where
  -- it stays empty across a gap, or takes the place of a slot that is empty there
  idle : (g len : ℕ) → g < count tr → P g ≡ P (suc g) + len → Residual tr k x P Q g (suc g) len
  unidle : (g : ℕ) → g < count tr → crowd tr x g < k → Residual tr k x P Q (suc g) g 0
  -- the item is not dropped any more, or it is filled at a read
  undrop : (t : ℕ) → t < count tr → drops_at tr x t ≡ true → Residual tr k x P Q t (node tr t) 0
  fill : (t len : ℕ) → t < count tr → reads tr t ≡ true → drops_at tr x t ≡ false → P t + tr.rules.fill ≡ Q t + len
      → Residual tr k x P Q t (node tr t) len
  -- the item is not filled any more, or it is dropped
  unfill : (t : ℕ) → t < count tr → fills_at tr x t ≡ true → Residual tr k x P Q (node tr t) t 0
  drop : (t len : ℕ) → t < count tr → fills_at tr x t ≡ false → Q t ≡ P t + len → Residual tr k x P Q (node tr t) t len
  -- the item is held up to its next request, or is not any more
  hold : (t len : ℕ) → t < count tr → next tr t < count tr → after x t ≡ false
      → Q t + struck tr (next tr t) ≡ Q (next tr t) + missed tr (next tr t) + len
      → Residual tr k x P Q (node tr t) (node tr (next tr t)) len
  unhold : (t len : ℕ) → t < count tr → next tr t < count tr → after x t ≡ true
      → Q (next tr t) + missed tr (next tr t) ≡ Q t + struck tr (next tr t) + len
      → Residual tr k x P Q (node tr (next tr t)) (node tr t) len

-- what a search back from the last point leaves: no way is shorter than the distances say, those beyond D counting as D
abbrev pub Searched : (tr : Trace) → (k : ℕ) → Flags → (P Q dist : ℕ → ℕ) → (D : ℕ) → Type 0
Searched tr k x P Q dist D =
    (v u len : ℕ) → Residual tr k x P Q v u len → min (dist v) D ≤ min (dist u) D + len

-- a node's worth grows by what its distance is short of D
abbrev pub raised : (dist : ℕ → ℕ) → (D v : ℕ) → ℕ
raised dist D v = D - min (dist v) D

-- the points' worths after a search
abbrev pub raised_points : (P dist : ℕ → ℕ) → (D : ℕ) → ℕ → ℕ
raised_points P dist D g = P g + raised dist D g

-- the requests' worths after a search
abbrev pub raised_requests : Trace → (Q dist : ℕ → ℕ) → (D : ℕ) → ℕ → ℕ
raised_requests tr Q dist D t = Q t + raised dist D (node tr t)

-- ---- the start

-- what holding request t's item is worth by its next request, cut at 0; 0 where there is none
abbrev pub ahead : Trace → (Q : ℕ → ℕ) → (t : ℕ) → ℕ
ahead tr Q t = cond (ltb (next tr t) (count tr)) (Q (next tr t) + missed tr (next tr t) - struck tr (next tr t)) 0

-- the least worths that fit no flags and no slots, told from the last request back
pub record Start (tr : Trace) (P Q : ℕ → ℕ) : Type 0 where
  pub last : P (count tr) ≡ 0
  pub request : (t : ℕ) → t < count tr → Q t ≡ max (P (suc t)) (ahead tr Q t)
  pub point : (t : ℕ) → t < count tr
      → P t ≡ cond (reads tr t) (max (P (suc t)) (Q t - tr.rules.fill)) (P (suc t))

-- what all requests cost together
abbrev pub costs_all : List Request → ℕ
costs_all [] = 0
costs_all (r ∷ rs) = r.cost + costs_all rs

-- how high worths can stand: the first point never above all costs, and a held item above the last point by no more than those and a fill
pub record Bounded (tr : Trace) (P Q : ℕ → ℕ) : Type 0 where
  pub first : P 0 ≤ costs_all tr.reqs
  pub request : (t : ℕ) → t < count tr → Q t ≤ P (count tr) + tr.rules.fill + costs_all tr.reqs
