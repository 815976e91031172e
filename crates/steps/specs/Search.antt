-- A search for shortest distances back from a sink over the ways into each node. Assumes nothing.
use Rattle.std.specs.Prelude.{◌≡◌, cond, ◌⊎◌, List, [], ◌∷◌, ℕ, suc, ◌+◌, ◌*◌, ◌-◌, ◌≤◌, ◌<◌, min, eqb, ltb, length, get_or}
use Rattle.frontier.specs.Frontier.{far, Desk}
use Rattle.steps.specs.Ways.{Way, no_way}

-- the ways by the lists of where they come from and of their lengths: one that is as long as far is closed, and counts as none
unfoldable pub ways_by : (from len : List ℕ) → (u kind : ℕ) → Way
ways_by from len u kind =
    cond (ltb (get_or len (3 * u + kind) 0) far) (record { from = get_or from (3 * u + kind) 0; len = get_or len (3 * u + kind) 0 }) (no_way u)

-- a rank that says not reached yet
abbrev pub unranked : ℕ
unranked = 2050

-- how many entries of a list are this one
unfoldable pub times : (x : ℕ) → List ℕ → ℕ
times x [] = 0
times x (y ∷ l) = cond (eqb y x) 1 0 + times x l

-- node v is reached: its distance is final
abbrev pub Reached : (rank : List ℕ) → (v : ℕ) → Type 0
Reached rank v = get_or rank v 0 < unranked

-- v stands in one of the places i .. m - 1 of the list
abbrev pub Stands : (l : List ℕ) → (i m v : ℕ) → Type 0
Stands l i m v = (j : ℕ) × (i ≤ j) × (j < m) × (get_or l j 0 ≡ v)

-- the first m places of the list hold different nodes
abbrev pub Apart : (l : List ℕ) → (m : ℕ) → Type 0
Apart l m = (i j : ℕ) → i < j → j < m → get_or l i 0 ≡ get_or l j 0 → ⊥

-- v was labelled by the way of some kind that leads from it into u, which was reached before it
pub record Hop (ways : ℕ → ℕ → Way) (dist rank : List ℕ) (v u : ℕ) : Type 0 where
  pub kind : ℕ
  pub kinds : kind < 3
  pub from : (ways u kind).from ≡ v
  pub sum : get_or dist v 0 ≡ get_or dist u 0 + (ways u kind).len
  pub reached : Reached rank u
  pub earlier : get_or rank u 0 < get_or rank v 0

-- what one search keeps of the nodes that it reached: they are `turn`, of which `top` wait on the stack; of the ways into node u
-- only the kinds below s are offered
pub record Kept (m sink : ℕ) (ways : ℕ → ℕ → Way) (dist hop rank stack : List ℕ) (top current turn u s : ℕ) : Type 0 where
  pub few : m ≤ 2050
  pub dist_long : length dist ≡ 2050
  pub hop_long : length hop ≡ 2050
  pub rank_long : length rank ≡ 2050
  pub stack_long : length stack ≡ 2050
  pub close : current < far
  pub near : (v : ℕ) → get_or dist v 0 ≤ far
  pub ranks : (v : ℕ) → Reached rank v → get_or rank v 0 < turn
  pub ranked : (v : ℕ) → get_or rank v 0 ≤ unranked
  pub counted : turn + times unranked rank ≡ 2050
  pub stacked : top ≤ turn
  pub stack_in : (j : ℕ) → j < top → (get_or stack j 0 < m) × Reached rank (get_or stack j 0) × (get_or dist (get_or stack j 0) 0 ≡ current)
  pub inside : (v : ℕ) → v < m → Reached rank v → get_or dist v 0 ≤ current
  pub offered : (v kind : ℕ) → v < m → kind < 3 → Reached rank v → (v ≡ u → kind < s)
      → Stands stack 0 top v ⊎ (get_or dist (ways v kind).from 0 ≤ get_or dist v 0 + (ways v kind).len)
  pub hops : (v : ℕ) → v < m → get_or dist v 0 < far
      → (v ≡ sink) ⊎ ((get_or hop v 0 < m) × Hop ways dist rank v (get_or hop v 0))
  pub start : Reached rank sink × (get_or dist sink 0 ≡ 0)
  pub source : Reached rank 0 → get_or dist 0 0 ≡ current

-- the first `waiting` places of the list hold different labelled nodes, every one among them that is not reached
pub record Waits (m : ℕ) (dist rank list : List ℕ) (waiting : ℕ) : Type 0 where
  pub list_long : length list ≡ 2050
  pub spare : waiting + times far dist ≤ 2050
  pub list_in : (j : ℕ) → j < waiting → get_or list j 0 < m
  pub listed : (v : ℕ) → v < m → get_or rank v 0 ≡ unranked → get_or dist v 0 < far → Stands list 0 waiting v
  pub distinct : Apart list waiting
  pub labelled : (j : ℕ) → j < waiting → get_or dist (get_or list j 0) 0 < far

-- no unreached node of m is at the distance where the search stands, or nearer
abbrev pub Ahead : (m : ℕ) → (dist rank : List ℕ) → (current : ℕ) → Type 0
Ahead m dist rank current = (v : ℕ) → v < m → get_or rank v 0 ≡ unranked → current < get_or dist v 0

-- between the turns of a search
pub record Running (m sink : ℕ) (ways : ℕ → ℕ → Way) (dist hop rank stack list : List ℕ) (top waiting current turn : ℕ) : Type 0 where
  pub kept : Kept m sink ways dist hop rank stack top current turn 0 3
  pub waits : Waits m dist rank list waiting
  pub ahead : Ahead m dist rank current

-- a search runs with this desk, in some order of the nodes that it reached, and `left` turns are enough: each takes one node from the
-- stack, and puts on it no more than it reaches
pub record Runs (m sink : ℕ) (ways : ℕ → ℕ → Way) (d : Desk) (current left : ℕ) : Type 0 where
  pub rank : List ℕ
  pub turn : ℕ
  pub running : Running m sink ways d.dist d.hop rank d.stack d.list d.top d.waiting current turn
  pub bound : 2 * (2050 - turn) + d.top ≤ left

-- each point before the sink has a way on to the next, and all of them together are shorter than far
pub record Chain (m sink : ℕ) (ways : ℕ → ℕ → Way) (worth : ℕ → ℕ) : Type 0 where
  pub end : sink < m
  pub bound : (g : ℕ) → g ≤ sink → worth g < far
  pub from : (g : ℕ) → g < sink → (ways (suc g) 2).from ≡ g
  pub length : (g : ℕ) → g < sink → (ways (suc g) 2).len + worth (suc g) ≡ worth g

-- the lists say ways between the nodes of n requests, and those of the points bound how far off point 0 is
pub record Graph (n : ℕ) (from len : List ℕ) : Type 0 where
  pub few : n ≤ 1024
  pub inside : (u kind : ℕ) → u < suc (2 * n) → kind < 3 → get_or from (3 * u + kind) 0 < suc (2 * n)
  pub worth : ℕ → ℕ
  pub chain : Chain (suc (2 * n)) n (ways_by from len) worth

-- what a search that reached node 0 has found
pub record Found (m sink : ℕ) (ways : ℕ → ℕ → Way) (dist hop rank : List ℕ) : Type 0 where
  pub shortest : (v kind : ℕ) → v < m → kind < 3
      → min (get_or dist (ways v kind).from 0) (get_or dist 0 0) ≤ min (get_or dist v 0) (get_or dist 0 0) + (ways v kind).len
  pub hops : (v : ℕ) → v < m → Reached rank v → (v ≡ sink) ⊎ Hop ways dist rank v (get_or hop v 0)
  pub onward : (v : ℕ) → v < m → Reached rank v → (v ≡ sink) ⊎ (get_or hop v 0 < m)
  pub inside : (v : ℕ) → v < m → Reached rank v → get_or dist v 0 ≤ get_or dist 0 0
  pub source : Reached rank 0
  pub ends : get_or dist sink 0 ≡ 0

-- and it has found it in some order of the nodes, in which every hop goes back
pub record Finds (m sink : ℕ) (ways : ℕ → ℕ → Way) (dist hop : List ℕ) : Type 0 where
  pub rank : List ℕ
  pub hop_long : length hop ≡ 2050
  pub found : Found m sink ways dist hop rank
