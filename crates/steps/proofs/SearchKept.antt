-- What a search keeps of the nodes that it reached, through each of its steps. Assumes nothing.
use mathlib.Core.Path.{◌≡◌, sym, ap, ◌∙◌}
use mathlib.Core.Logic.{◌⊎◌, inl, inr, ⊎_elim}
use mathlib.Core.List.{List}
use Prim.Native.Nat.{ℕ, ◌+◌, ◌≤◌, ◌<◌}
use native.Mathlib.Decide.{ℕ_discrete}
use native.Mathlib.Omega.{arith}
use lib.ListN.{length, get_or, set, length-set}
use lib.Seq.{get_or-set_same, get_or-set_other}
use Rattle.frontier.specs.Frontier.{far}
use Rattle.steps.specs.Ways.{Way}
use Rattle.steps.specs.Search.{unranked, Reached, Stands, Hop, Kept, Waits, Ahead}
use Rattle.steps.proofs.SearchLists.{get_d_set, unlike, times_less, times_some, stands_more, stands_last}

-- while the ways into u are offered, those of the kinds below s already
pub record Spreading (m sink : ℕ) (ways : ℕ → ℕ → Way) (dist hop rank stack list : List ℕ) (top waiting current turn u s : ℕ) : Type 0 where
  pub kept : Kept m sink ways dist hop rank stack top current turn u s
  pub waits : Waits m dist rank list waiting
  pub ahead : Ahead m dist rank current
  pub within : u < m
  pub mine : Reached rank u
  pub stood : get_or dist u 0 ≡ current

module _ {m sink : ℕ} {ways : ℕ → ℕ → Way} {dist hop rank stack : List ℕ} {top current turn u s : ℕ}
    (K : Kept m sink ways dist hop rank stack top current turn u s) where
  -- a place on the stack is left for a node that is not reached
  pub kept_room : {v : ℕ} → v < m → get_or rank v 0 ≡ unranked → (top < 2050) × (turn < 2050)
  kept_room {v} h o =
      let some = times_some unranked rank v (omega (arith, K.few, K.rank_long)) o in
      omega (arith, some, K.counted, K.stacked)

  -- an unreached node gets a nearer label by a way into u
  module _ {v e kind : ℕ} (h : v < m) (o : get_or rank v 0 ≡ unranked) (less : e < get_or dist v 0) (n : u < m) (r : Reached rank u)
      (small : kind < 3) (from : (ways u kind).from ≡ v) (sum : e ≡ get_or dist u 0 + (ways u kind).len) where
    at_dist : (y : ℕ) → ((y ≡ v) × (get_or (set dist v e) y 0 ≡ e)) ⊎ ((y ≡ v → ⊥) × (get_or (set dist v e) y 0 ≡ get_or dist y 0))
    at_dist y = get_d_set dist v e y (omega (arith, K.few, K.dist_long))

    -- a reached node keeps its distance, and no node gets farther
    same : (y : ℕ) → Reached rank y → get_or (set dist v e) y 0 ≡ get_or dist y 0
    same y z = get_or-set_other dist v y e 0 (unlike rank z o)

    lessens : (y : ℕ) → get_or (set dist v e) y 0 ≤ get_or dist y 0
    lessens y = ⊎_elim (λ w. omega (arith, ap (λ (k : ℕ). get_or dist k 0) w.0)) (λ w. omega arith) (at_dist y)

    hop_same : (p y : ℕ) → (y ≡ v → ⊥) → Hop ways dist rank y p → Hop ways (set dist v e) rank y p
    hop_same p y ne H =
        record {
          kind = H.kind;
          kinds = H.kinds;
          from = H.from;
          sum = get_or-set_other dist v y e 0 ne ∙ H.sum ∙ ap (λ (x : ℕ). x + (ways p H.kind).len) (sym (same p H.reached));
          reached = H.reached;
          earlier = H.earlier;
        }

    hop-new : Hop ways (set dist v e) rank v u
    hop-new =
        record {
          kind = kind;
          kinds = small;
          from = from;
          sum = get_or-set_same dist v e 0 (omega (arith, K.few, K.dist_long)) ∙ sum
              ∙ ap (λ (x : ℕ). x + (ways u kind).len) (sym (same u r));
          reached = r;
          earlier = omega (arith, o, r);
        }

    hops-new : (y : ℕ) → y < m → get_or (set dist v e) y 0 < far
        → (y ≡ sink) ⊎ ((get_or (set hop v u) y 0 < m) × Hop ways (set dist v e) rank y (get_or (set hop v u) y 0))
    hops-new y yn l =
        ⊎_elim
        (λ w. inr (rw (w.0, get_or-set_same hop v u 0 (omega (arith, K.few, K.hop_long))) (n, hop-new)))
        (λ w.
        rw (get_or-set_other hop v y u 0 w.0)
        (⊎_elim (λ z. inl z) (λ z. inr (z.0, hop_same _ y w.0 z.1)) (K.hops y yn (omega arith)))) (at_dist y)

    pub kept_label : Kept m sink ways (set dist v e) (set hop v u) rank stack top current turn u s
    kept_label =
        record {
          few = K.few;
          dist_long = length-set dist v e ∙ K.dist_long;
          hop_long = length-set hop v u ∙ K.hop_long;
          rank_long = K.rank_long;
          stack_long = K.stack_long;
          close = K.close;
          near = λ y. omega (arith, lessens y, K.near y);
          ranks = K.ranks;
          ranked = K.ranked;
          counted = K.counted;
          stacked = K.stacked;
          stack_in = λ j l. let z = K.stack_in j l in (z.0, z.1, same _ z.1 ∙ z.2);
          inside = λ y yn z. omega (arith, same y z, K.inside y yn z);
          offered = λ y kind' yn l z f.
              ⊎_elim (λ w. inl w) (λ w. inr (omega (arith, same y z, lessens (ways y kind').from))) (K.offered y kind' yn l z f);
          hops = hops-new;
          start = (K.start.0, same sink K.start.0 ∙ K.start.1);
          source = λ z. same 0 z ∙ K.source z;
        }

  -- an unreached node at the distance where the search stands is reached, and put on the stack
  module _ {v : ℕ} (h : v < m) (o : get_or rank v 0 ≡ unranked) (e : get_or dist v 0 ≡ current) where
    v<rank : v < length rank
    v<rank = omega (arith, K.few, K.rank_long)

    top<stack : top < length stack
    top<stack = omega (arith, K.stack_long, (kept_room h o).0)

    at_rank : (y : ℕ) → ((y ≡ v) × (get_or (set rank v turn) y 0 ≡ turn)) ⊎ ((y ≡ v → ⊥) × (get_or (set rank v turn) y 0 ≡ get_or rank y 0))
    at_rank y = get_d_set rank v turn y v<rank

    turned : turn < 2050
    turned = (kept_room h o).1

    reached-more : (y : ℕ) → Reached rank y → Reached (set rank v turn) y
    reached-more y z = ⊎_elim (λ w. omega (arith, turned)) (λ w. omega arith) (at_rank y)

    was : (y : ℕ) → (y ≡ v → ⊥) → Reached (set rank v turn) y → Reached rank y
    was y ne z = ⊎_elim (λ w. absurd (ne w.0)) (λ w. omega arith) (at_rank y)

    hop-kept : (p y : ℕ) → Hop ways dist rank y p → Hop ways dist (set rank v turn) y p
    hop-kept p y H =
        let same : get_or (set rank v turn) p 0 ≡ get_or rank p 0 = get_or-set_other rank v p turn 0 (unlike rank H.reached o) in
        record {
          kind = H.kind;
          kinds = H.kinds;
          from = H.from;
          sum = H.sum;
          reached = reached-more p H.reached;
          earlier = ⊎_elim (λ w. omega (arith, K.ranks p H.reached)) (λ w. omega (arith, H.earlier)) (at_rank y);
        }

    stack-reached : (j : ℕ) → j < top + 1
        → (get_or (set stack top v) j 0 < m) × Reached (set rank v turn) (get_or (set stack top v) j 0)
        × (get_or dist (get_or (set stack top v) j 0) 0 ≡ current)
    stack-reached j l =
        ⊎_elim
        (λ w. rw w.1 (h, rw (get_or-set_same rank v turn 0 v<rank) (omega (arith, turned)), e))
        (λ w. rw w.1 (let z = K.stack_in j (omega (arith, w.0)) in (z.0, reached-more _ z.1, z.2)))
        (get_d_set stack top v j top<stack)

    pub kept-reach : Kept m sink ways dist hop (set rank v turn) (set stack top v) (top + 1) current (turn + 1) u s
    kept-reach =
        record {
          few = K.few;
          dist_long = K.dist_long;
          hop_long = K.hop_long;
          rank_long = length-set rank v turn ∙ K.rank_long;
          stack_long = length-set stack top v ∙ K.stack_long;
          close = K.close;
          near = K.near;
          ranks = λ y z. ⊎_elim (λ w. omega arith) (λ w. omega (arith, K.ranks y (was y w.0 z))) (at_rank y);
          ranked = λ y. ⊎_elim (λ w. omega (arith, turned)) (λ w. omega (arith, K.ranked y)) (at_rank y);
          counted = omega (arith, times_less unranked rank v turn v<rank o (λ q. omega (arith, turned)), K.counted);
          stacked = omega (arith, K.stacked);
          stack_in = stack-reached;
          inside = λ y yn z. ⊎_elim (λ w. rw w.0 (omega (arith, e))) (λ w. K.inside y yn (was y w.0 z)) (at_rank y);
          offered = λ y kind yn l z f.
              ⊎_elim (λ w. inl (rw w.0 (stands_last stack 0 top v top<stack (omega arith))))
              (λ w. ⊎_elim (λ x. inl (stands_more stack 0 top y v x)) (λ x. inr x) (K.offered y kind yn l (was y w.0 z) f))
              (at_rank y);
          hops = λ y yn l. ⊎_elim (λ z. inl z) (λ z. inr (z.0, hop-kept _ y z.1)) (K.hops y yn l);
          start = (reached-more sink K.start.0, K.start.1);
          source = λ z. ⊎_elim (λ w. ap (λ (k : ℕ). get_or dist k 0) w.0 ∙ e) (λ w. K.source (was 0 w.0 z)) (at_rank 0);
        }

  -- one kind more of the ways into u is offered
  pub kept_widen : get_or dist (ways u s).from 0 ≤ get_or dist u 0 + (ways u s).len
      → Kept m sink ways dist hop rank stack top current turn u (s + 1)
  kept_widen here =
      record {
        few = K.few;
        dist_long = K.dist_long;
        hop_long = K.hop_long;
        rank_long = K.rank_long;
        stack_long = K.stack_long;
        close = K.close;
        near = K.near;
        ranks = K.ranks;
        ranked = K.ranked;
        counted = K.counted;
        stacked = K.stacked;
        stack_in = K.stack_in;
        inside = K.inside;
        offered = λ y kind yn l z f.
            elim (ℕ_discrete y u) [
              | yes p ↦ elim (ℕ_discrete kind s) [
                | yes q ↦ inr (rw (p, q) here)
                | no q ↦ K.offered y kind yn l z (λ _. omega (arith, f p))
              ]
              | no p ↦ K.offered y kind yn l z (λ q. absurd (p q))
            ];
        hops = K.hops;
        start = K.start;
        source = K.source;
      }

  -- another node's turn, where all ways into u are offered or u is this node
  pub kept_turn : (u' s' top' : ℕ) → top' ≤ top
      → ((v kind : ℕ) → v < m → kind < 3 → Reached rank v → (v ≡ u' → kind < s')
      → Stands stack 0 top' v ⊎ (get_or dist (ways v kind).from 0 ≤ get_or dist v 0 + (ways v kind).len))
      → Kept m sink ways dist hop rank stack top' current turn u' s'
  kept_turn u' s' top' l f =
      record {
        few = K.few;
        dist_long = K.dist_long;
        hop_long = K.hop_long;
        rank_long = K.rank_long;
        stack_long = K.stack_long;
        close = K.close;
        near = K.near;
        ranks = K.ranks;
        ranked = K.ranked;
        counted = K.counted;
        stacked = omega (arith, K.stacked);
        stack_in = λ j h. K.stack_in j (omega arith);
        inside = K.inside;
        offered = f;
        hops = K.hops;
        start = K.start;
        source = K.source;
      }

  -- the search goes on at another distance when the stack is empty
  pub kept_move : (low : ℕ) → top ≡ 0 → current ≤ low → low < far → get_or rank 0 0 ≡ unranked
      → Kept m sink ways dist hop rank stack top low turn u s
  kept_move low z l c o =
      record {
        few = K.few;
        dist_long = K.dist_long;
        hop_long = K.hop_long;
        rank_long = K.rank_long;
        stack_long = K.stack_long;
        close = c;
        near = K.near;
        ranks = K.ranks;
        ranked = K.ranked;
        counted = K.counted;
        stacked = K.stacked;
        stack_in = λ j h. absurd (omega arith);
        inside = λ v h r. omega (arith, K.inside v h r);
        offered = K.offered;
        hops = K.hops;
        start = K.start;
        source = λ r. absurd (omega arith);
      }
