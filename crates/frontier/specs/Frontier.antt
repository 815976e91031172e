-- What a search keeps of the nodes that it has labelled: a stack of those that it reached at the distance where it stands and has
-- still to look at, and a list of those that wait further off. Nodes are numbers below 2050. Assumes nothing.
use Rattle.std.specs.Prelude.{ℕ, ◌+◌, min, cond, ◌&&◌, List, [], ◌∷◌, ◌++◌, length, get_or, set, drop, ltb, eqb}
use Rattle.frontier.specs.declared.Frontier.{Frontier}

-- a distance that says unreached
abbrev pub far : ℕ
far = 4294967295

-- distances and hops of the nodes, the stack and the list, and how many of their places count
pub record Desk : Type 0 where
  pub dist : List ℕ
  pub hop : List ℕ
  pub stack : List ℕ
  pub list : List ℕ
  pub top : ℕ
  pub waiting : ℕ

-- a desk of these parts
abbrev pub desk : (dist hop stack list : List ℕ) → (top waiting : ℕ) → Desk
desk dist hop stack list top waiting = record { dist = dist; hop = hop; stack = stack; list = list; top = top; waiting = waiting }

-- what a search's struct holds
abbrev pub desk_of : Frontier → Desk
desk_of f = desk f.dist f.hop f.stack f.list f.top f.waiting

-- v is put on the stack, at distance e by way of u
abbrev pub pushed : Desk → (u v e : ℕ) → Desk
pushed d u v e =
    cond (ltb d.top 2050)
    (desk (set d.dist v e) (set d.hop v u) (set d.stack d.top v) d.list (d.top + 1) d.waiting) d

-- v is put on the list
abbrev pub listed : Desk → (u v e : ℕ) → Desk
listed d u v e =
    cond (ltb d.waiting 2050)
    (desk (set d.dist v e) (set d.hop v u) d.stack (set d.list d.waiting v) d.top (d.waiting + 1)) d

-- v, which is on the list, comes nearer
abbrev pub lowered : Desk → (u v e : ℕ) → Desk
lowered d u v e = desk (set d.dist v e) (set d.hop v u) d.stack d.list d.top d.waiting

-- node v is offered the distance e by way of u by a search that stands at `current`
unfoldable pub offered : Desk → (u v e current : ℕ) → Desk
offered d u v e current =
    cond (ltb v 2050 && ltb e (get_or d.dist v 0))
    (cond (eqb e current) (pushed d u v e) (cond (eqb (get_or d.dist v 0) far) (listed d u v e) (lowered d u v e))) d

-- the nodes of a list that are further off than `current`, in their order
unfoldable pub beyond : (dist : List ℕ) → (current : ℕ) → List ℕ → List ℕ
beyond dist current [] = []
beyond dist current (v ∷ l) = cond (ltb current (get_or dist v 0)) (v ∷ beyond dist current l) (beyond dist current l)

-- the least distance of a list of nodes, or `far`
unfoldable pub nearest : (dist : List ℕ) → List ℕ → ℕ
nearest dist [] = far
nearest dist (v ∷ l) = min (get_or dist v 0) (nearest dist l)

-- the nodes of a list that are just so far off, in their order
unfoldable pub those : (dist : List ℕ) → (low : ℕ) → List ℕ → List ℕ
those dist low [] = []
those dist low (v ∷ l) = cond (ltb v 2050 && eqb (get_or dist v 0) low) (v ∷ those dist low l) (those dist low l)

-- a list whose first places are taken by these nodes
unfoldable pub written : (nodes old : List ℕ) → List ℕ
written nodes old = nodes ++ drop (length nodes) old
