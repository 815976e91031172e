-- The turns of a search: how it begins, takes a node from the stack, and goes on to the next distance. Assumes nothing.
use mathlib.Core.Path.{◌≡◌, refl, sym, ap, ◌∙◌}
use mathlib.Core.Logic.{◌⊎◌, inl, inr, ⊎_elim}
use mathlib.Core.List.{List}
use Prim.Native.Nat.{ℕ, zero, suc, ◌+◌, ◌-◌, ◌≤◌, ◌<◌}
use native.Mathlib.Decide.{dec_lt, ℕ_discrete}
use native.Mathlib.Nat.{zero-add}
use native.Mathlib.Omega.{arith}
use lib.ListN.{length, get_or, set, take, drop, replicate, length-set, length-replicate, get_or-replicate, get_or-eq_default}
use lib.Seq.{sets, sets-eq, get_or-take, get_or-set_same, length-take-le, take-append_seam}
use Rattle.frontier.specs.Frontier.{far, Desk, desk, beyond, nearest, those, written}
use Rattle.frontier.proofs.Places.{written_length, written_at}
use Rattle.frontier.proofs.Kept.{Has, beyond_short, beyond_in, beyond_has, those_short, those_in, those_has, nearest_le, nearest_some}
use Rattle.steps.specs.Ways.{Way}
use Rattle.steps.specs.Search.{unranked, times, Reached, Stands, Apart, Kept, Waits, Ahead, Running, Runs, Chain}
use Rattle.steps.proofs.SearchLists.{get_d_set, either, times_less, times_below, times_all}
use Rattle.steps.proofs.SearchKept.{Spreading, kept_turn, kept_move}
use Rattle.steps.proofs.SearchSift.{beyond_apart, those_apart}
use Rattle.steps.proofs.SearchTake.{Reaches, reach_all}
use Rattle.steps.proofs.SearchOffer.{Spreads}

-- a list of 2050 places that all have one value
pub record Even (x : ℕ) (l : List ℕ) : Type 0 where
  pub long : length l ≡ 2050
  pub all : (v : ℕ) → v < 2050 → get_or l v 0 ≡ x
  pub upto : (v : ℕ) → (get_or l v 0 ≡ x) ⊎ (get_or l v 0 ≡ 0)
  pub count : times x l ≡ 2050

even : (n x : ℕ) → n ≡ 2050 → Even x (replicate n x)
even n x e =
    record {
      long = length-replicate n x ∙ e;
      all = λ v h. get_or-replicate n v x 0 (omega arith);
      upto = λ v.
          elim (dec_lt v n) [
            | yes h ↦ inl (get_or-replicate n v x 0 h)
            | no h ↦ inr (get_or-eq_default (replicate n x) 0 (rw (length-replicate n x) (omega arith)))
          ];
      count = times_all x n ∙ e;
    }

pub even_of : (x : ℕ) (l : List ℕ) → l ≡ replicate 2050 x → Even x l
even_of x l e = rw e (even 2050 x refl)

module _ (m sink : ℕ) (ways : ℕ → ℕ → Way) (dist hop rank stack list : List ℕ) (few : m ≤ 2050) (in-m : sink < m) (D : Even far dist) (R : Even unranked rank)
    (hop_long : length hop ≡ 2050) (stack_long : length stack ≡ 2050) (list_long : length list ≡ 2050) where
  at_dist : (v : ℕ) → ((v ≡ sink) × (get_or (set dist sink 0) v 0 ≡ 0)) ⊎ ((v ≡ sink → ⊥) × (get_or (set dist sink 0) v 0 ≡ get_or dist v 0))
  at_dist v = get_d_set dist sink 0 v (omega (arith, D.long))

  at_rank : (v : ℕ) → ((v ≡ sink) × (get_or (set rank sink 0) v 0 ≡ 0)) ⊎ ((v ≡ sink → ⊥) × (get_or (set rank sink 0) v 0 ≡ get_or rank v 0))
  at_rank v = get_d_set rank sink 0 v (omega (arith, R.long))

  only : (v : ℕ) → v < m → Reached (set rank sink 0) v → v ≡ sink
  only v h r = ⊎_elim (λ w. w.0) (λ w. absurd (omega (arith, R.all v (omega arith)))) (at_rank v)

  others : (v : ℕ) → v < m → (v ≡ sink → ⊥) → get_or (set dist sink 0) v 0 ≡ far
  others v h n = ⊎_elim (λ w. absurd (n w.0)) (λ w. w.1 ∙ D.all v (omega arith)) (at_dist v)

  not_sink : (v : ℕ) → get_or (set rank sink 0) v 0 ≡ unranked → v ≡ sink → ⊥
  not_sink v o e = ⊎_elim (λ w. omega arith) (λ w. w.0 e) (at_rank v)

  first : get_or (set stack 0 sink) 0 0 ≡ sink
  first = get_or-set_same stack 0 sink 0 (omega arith)

  dist_sink : get_or (set dist sink 0) sink 0 ≡ 0
  dist_sink = get_or-set_same dist sink 0 0 (omega (arith, D.long))

  rank_sink : get_or (set rank sink 0) sink 0 ≡ 0
  rank_sink = get_or-set_same rank sink 0 0 (omega (arith, R.long))

  kept_begin : Kept m sink ways (set dist sink 0) hop (set rank sink 0) (set stack 0 sink) 1 0 1 0 3
  kept_begin =
      record {
        few = few;
        dist_long = length-set dist sink 0 ∙ D.long;
        hop_long = hop_long;
        rank_long = length-set rank sink 0 ∙ R.long;
        stack_long = length-set stack 0 sink ∙ stack_long;
        close = omega arith;
        near = λ v. ⊎_elim (λ w. omega arith) (λ w. ⊎_elim (λ z. omega arith) (λ z. omega arith) (D.upto v)) (at_dist v);
        ranks = λ v r. ⊎_elim (λ w. omega arith) (λ w. ⊎_elim (λ z. absurd (omega arith)) (λ z. omega arith) (R.upto v)) (at_rank v);
        ranked = λ v. ⊎_elim (λ w. omega arith) (λ w. ⊎_elim (λ z. omega arith) (λ z. omega arith) (R.upto v)) (at_rank v);
        counted = omega (arith, times_less unranked rank sink 0 (omega (arith, R.long)) (R.all sink (omega arith)) (λ e. omega arith), R.count);
        stacked = omega arith;
        stack_in = λ j l.
            let z : j ≡ 0 = omega arith in
            rw (z, first) (in-m, rw rank_sink (omega arith), dist_sink);
        inside = λ v h r. rw (only v h r) (omega (arith, dist_sink));
        offered = λ v kind h l r f. inl (0, omega arith, omega arith, first ∙ sym (only v h r));
        hops = λ v h l.
            elim (ℕ_discrete v sink) [
              | yes e ↦ inl e
              | no n ↦ absurd (omega (arith, others v h n))
            ];
        start = (rw rank_sink (omega arith), dist_sink);
        source = λ r. ap (λ (v : ℕ). get_or (set dist sink 0) v 0) (only 0 (omega arith) r) ∙ dist_sink;
      }

  -- before the first turn the last point is reached, and stands on the stack alone
  run_begin : Running m sink ways (set dist sink 0) hop (set rank sink 0) (set stack 0 sink) list 1 0 0 1
  run_begin =
      record {
        kept = kept_begin;
        waits = record {
          list_long = list_long;
          spare = omega (arith, times_below far dist sink 0 (λ e. omega arith), D.count);
          list_in = λ j l. absurd (omega arith);
          listed = λ v h o l. absurd (omega (arith, others v h (not_sink v o)));
          distinct = λ i j a b q. absurd (omega arith);
          labelled = λ j l. absurd (omega arith);
        };
        ahead = λ v h o. omega (arith, others v h (not_sink v o));
      }

-- no node is reached
blank : List ℕ
blank = replicate 2050 unranked

blank_even : Even unranked blank
unfolding blank
blank_even = even 2050 unranked refl

-- and 4100 turns are enough
pub runs_begin : (m sink : ℕ) (ways : ℕ → ℕ → Way) (dist hop stack list : List ℕ) → m ≤ 2050 → sink < m → Even far dist
    → length hop ≡ 2050 → length stack ≡ 2050 → length list ≡ 2050
    → Runs m sink ways (desk (set dist sink 0) hop (set stack 0 sink) list 1 0) 0 4100
runs_begin m sink ways dist hop stack list few in-m D h s l =
    record {
      rank = set blank sink 0;
      turn = 1;
      running = run_begin m sink ways dist hop blank stack list few in-m D blank_even h s l;
      bound = omega arith;
    }

module _ {m sink : ℕ} {ways : ℕ → ℕ → Way} {dist hop rank stack list : List ℕ} {top waiting current turn : ℕ}
    (R : Running m sink ways dist hop rank stack list top waiting current turn) where
  -- the node on top of the stack is taken from it
  run_pop : 0 < top → Spreading m sink ways dist hop rank stack list (top - 1) waiting current turn (get_or stack (top - 1) 0) 0
  run_pop p =
      let z = R.kept.stack_in (top - 1) (omega arith) in
      record {
        kept = kept_turn R.kept (get_or stack (top - 1) 0) 0 (top - 1) (omega arith)
            (λ v kind h l r f.
            ⊎_elim (λ w. inl (below v w (λ e. absurd (omega (arith, f e))))) (λ w. inr w) (R.kept.offered v kind h l r (λ _. l)));
        waits = R.waits;
        ahead = R.ahead;
        within = z.0;
        mine = z.1;
        stood = z.2;
      }
    where
      -- what stands on the stack and is not its top stands below it
      below : (v : ℕ) → Stands stack 0 top v → (v ≡ get_or stack (top - 1) 0 → ⊥) → Stands stack 0 (top - 1) v
      below v w n =
          elim (ℕ_discrete w.0 (top - 1)) [
            | yes e ↦ absurd (n (sym w.3 ∙ ap (λ (j : ℕ). get_or stack j 0) e))
            | no q ↦ (w.0, w.1, omega (arith, q, w.2), w.3)
          ]

  -- a node is left to reach: along the chain of points every one would be reached else
  module _ {worth : ℕ → ℕ} (C : Chain m sink ways worth) (z : top ≡ 0) (all : (v : ℕ) → v < m → get_or rank v 0 ≡ unranked → far ≤ get_or dist v 0) where
    chain-reached : (d g : ℕ) → g + d ≡ sink → Reached rank g × (get_or dist g 0 + worth sink ≤ worth g)
    chain-reached zero g e =
        let q : g ≡ sink = omega arith in
        let s = R.kept.start in
        rw q (s.0, omega (arith, s.1))
    chain-reached (suc d) g e =
        let l : g < sink = omega arith in
        let w = chain-reached d (suc g) (omega arith) in
        let end = C.end in
        let near : get_or dist g 0 ≤ get_or dist (suc g) 0 + (ways (suc g) 2).len =
        ⊎_elim (λ x. absurd (omega (arith, x.2))) (λ x. rw (C.from g l) at x)
        (R.kept.offered (suc g) 2 (omega arith) (omega arith) w.0 (λ _. omega arith)) in
        let sum : get_or dist g 0 + worth sink ≤ worth g = omega (arith, near, w.1, C.length g l) in
        (⊎_elim (λ x. x) (λ x. absurd (omega (arith, all g (omega arith) x, sum, C.bound g (omega arith)))) (either rank g (R.kept.ranked g)), sum)

    chain-source : Reached rank 0
    chain-source = (chain-reached sink 0 (omega arith)).0

  -- the list is sifted when the stack is empty
  module _ (o : current < get_or dist 0 0) (in-m : 0 < m) {worth : ℕ → ℕ} (C : Chain m sink ways worth) (z : top ≡ 0) where
    abbrev listed : List ℕ
    listed = take waiting list

    -- what is left of it
    abbrev nodes : List ℕ
    nodes = beyond dist current listed

    abbrev low : ℕ
    low = nearest dist nodes

    listed-long : length listed ≡ waiting
    listed-long = length-take-le waiting list (omega (arith, R.waits.list_long, R.waits.spare))

    fewer : length nodes ≤ waiting
    fewer = omega (arith, beyond_short dist current listed, listed-long)

    -- a node that is farther than where the search stands is not reached
    unreached : (v : ℕ) → v < m → current < get_or dist v 0 → get_or rank v 0 ≡ unranked
    unreached v h l = ⊎_elim (λ r. absurd (omega (arith, R.kept.inside v h r))) (λ x. x) (either rank v (R.kept.ranked v))

    -- what is left are unreached nodes, labelled
    node-is : (j : ℕ) → j < length nodes → (get_or nodes j 0 < m) × (get_or rank (get_or nodes j 0) 0 ≡ unranked) × (get_or dist (get_or nodes j 0) 0 < far)
    node-is j l =
        let w = beyond_in dist current listed j l in
        let k : w.1.0 < waiting = omega (arith, listed-long, w.1.1) in
        let e = sym (get_or-take waiting list w.1.0 0 k) ∙ w.1.2 in
        let h = rw e at (R.waits.list_in w.1.0 k) in
        (h, unreached (get_or nodes j 0) h w.0, rw e at (R.waits.labelled w.1.0 k))

    -- and all of them
    node-has : (v : ℕ) → v < m → get_or rank v 0 ≡ unranked → get_or dist v 0 < far → Has nodes v
    node-has v h r l =
        let w = R.waits.listed v h r l in
        let e = get_or-take waiting list w.0 0 w.2 ∙ w.3 in
        rw e at (beyond_has dist current listed w.0 (omega (arith, listed-long, w.2)) (rw e (R.ahead v h r)))

    -- no label is below the least
    low-le : (v : ℕ) → v < m → get_or rank v 0 ≡ unranked → get_or dist v 0 < far → low ≤ get_or dist v 0
    low-le v h r l = let w = node-has v h r l in rw w.2 at (nearest_le dist nodes w.0 w.1)

    -- the next distance is a label's
    close : low < far
    close =
        elim (dec_lt low far) [
          | yes l ↦ l
          | no n ↦ absurd (omega (
            arith,
            unreached 0 in-m o,
            chain-source C z (λ v h r.
                elim (dec_lt (get_or dist v 0) far) [ yes l ↦ absurd (omega (arith, n, low-le v h r l)) | no l ↦ omega (arith, l) ]),
          ))
        ]

    -- some node that is left is at that distance
    low-some : (j : ℕ) × (j < length nodes) × (get_or dist (get_or nodes j 0) 0 ≡ low)
    low-some = ⊎_elim (λ w. absurd (omega (arith, close))) (λ w. w) (nearest_some dist nodes)

    onward : current ≤ low
    onward =
        let w = low-some in
        let v = node-is w.0 w.1 in
        omega (arith, w.2, R.ahead (get_or nodes w.0 0) v.0 v.1)

    nodes-apart : Apart nodes (length nodes)
    nodes-apart =
        beyond_apart dist current listed (λ i j a b q.
        let h : j < waiting = omega (arith, listed-long) in
        R.waits.distinct i j a h (sym (get_or-take waiting list i 0 (omega arith)) ∙ q ∙ get_or-take waiting list j 0 h))

    -- those that are now reached
    abbrev nearer : List ℕ
    nearer = those dist low nodes

    nearer-is : (j : ℕ) → j < length nearer → (get_or nearer j 0 < m) × (get_or rank (get_or nearer j 0) 0 ≡ unranked) × (get_or dist (get_or nearer j 0) 0 ≡ low)
    nearer-is j l =
        let w = those_in dist low nodes j l in
        let v = node-is w.2.0 w.2.1 in
        (rw w.2.2 at v.0, rw w.2.2 at v.1, w.1)

    reaches : Reaches m sink ways dist hop rank (sets stack top nearer) (top + length nearer) low (turn + length nearer) nearer
    reaches =
        reach_all nearer (kept_move R.kept low z onward close (unreached 0 in-m o)) (those_apart dist low nodes nodes-apart) nearer-is

    list-fits : length nodes ≤ length list
    list-fits = omega (arith, fewer, R.waits.list_long, R.waits.spare)

    at : (j : ℕ) → j < length nodes → get_or (written nodes list) j 0 ≡ get_or nodes j 0
    at j l = written_at nodes list j l

    waits-next : Waits m dist reaches.rank (written nodes list) (length nodes)
    waits-next =
        record {
          list_long = written_length nodes list list-fits ∙ R.waits.list_long;
          spare = omega (arith, fewer, R.waits.spare);
          list_in = λ j l. rw (at j l) (node-is j l).0;
          listed = λ v h r l. let w = node-has v h (reaches.was v r) l in (w.0, omega arith, w.1, at w.0 w.1 ∙ w.2);
          distinct = λ i j a b q. nodes-apart i j a b (sym (at i (omega arith)) ∙ q ∙ at j b);
          labelled = λ j l. rw (at j l) (node-is j l).2;
        }

    -- a listed node at that distance is among those that are reached
    nearer-has : (j : ℕ) → j < length nodes → get_or dist (get_or nodes j 0) 0 ≡ low → Has nearer (get_or nodes j 0)
    nearer-has j l e = those_has dist low nodes j l (omega (arith, (node-is j l).0, R.kept.few)) e

    ahead-next : Ahead m dist reaches.rank low
    ahead-next v h r =
        let r₀ = reaches.was v r in
        elim (dec_lt (get_or dist v 0) far) [
          | yes l ↦
              let w = node-has v h r₀ l in
              elim (ℕ_discrete (get_or dist v 0) low) [
                | yes e ↦
                    let x = nearer-has w.0 w.1 (ap (λ (y : ℕ). get_or dist y 0) w.2 ∙ e) in
                    absurd (reaches.all x.0 x.1 (ap (λ (y : ℕ). get_or reaches.rank y 0) (x.2 ∙ w.2) ∙ r))
                | no n ↦ omega (arith, n, low-le v h r₀ l)
              ]
          | no l ↦ omega (arith, l, close)
        ]

    nearer-some : 0 < length nearer
    nearer-some = let w = low-some in omega (arith, (nearer-has w.0 w.1 w.2).1)

    stack_is : sets stack top nearer ≡ written nearer stack
    unfolding written
    stack_is =
        let fits : length nearer ≤ 2050 = omega (arith, those_short dist low nodes, list-fits, R.waits.list_long) in
        let long = R.kept.stack_long in
        rw (z, sets-eq nearer stack 0 (omega arith), zero-add (length nearer))

    -- the search stands at the next distance, and a node stands on the stack
    run-next : Running m sink ways dist hop reaches.rank (written nearer stack) (written nodes list) (length nearer) (length nodes) low (turn + length nearer)
    run-next =
        let e : top + length nearer ≡ length nearer = omega arith in
        record { kept = rw (stack_is, e) at reaches.kept; waits = waits-next; ahead = ahead-next }

-- after the last kind it is the next node's turn
run_on : {m sink : ℕ} {ways : ℕ → ℕ → Way} {dist hop rank stack list : List ℕ} {top waiting current turn u : ℕ}
    → Spreading m sink ways dist hop rank stack list top waiting current turn u 3 → Running m sink ways dist hop rank stack list top waiting current turn
run_on S =
    record {
      kept = kept_turn S.kept 0 3 _ (omega arith) (λ v kind h l r f. S.kept.offered v kind h l r (λ _. l));
      waits = S.waits;
      ahead = S.ahead;
    }

-- the nodes that are written are its first
take_written : (nodes old : List ℕ) → take (length nodes) (written nodes old) ≡ nodes
unfolding written
take_written nodes old = take-append_seam nodes (drop (length nodes) old)

-- a turn can begin: a node stands on the stack
pub record Ready (m sink : ℕ) (ways : ℕ → ℕ → Way) (d : Desk) (current left : ℕ) : Type 0 where
  pub runs : Runs m sink ways d current left
  pub some : 0 < d.top

module _ {m sink : ℕ} {ways : ℕ → ℕ → Way} {d : Desk} {current left : ℕ} (R : Runs m sink ways d current left) where
  -- the stack is not empty
  pub ready_stay : (d.top ≡ 0 → ⊥) → Ready m sink ways d current left
  ready_stay n = record { runs = R; some = omega (arith, n) }

  -- or the list is sifted, and its nearest nodes are taken
  module _ (o : current < get_or d.dist 0 0) (in-m : 0 < m) {worth : ℕ → ℕ} (C : Chain m sink ways worth) (z : d.top ≡ 0) where
    ready-next :
        let nodes = beyond d.dist current (take d.waiting d.list) in
        let nearer = those d.dist (nearest d.dist nodes) nodes in
        Ready m sink ways (desk d.dist d.hop (written nearer d.stack) (written nodes d.list) (length nearer) (length nodes)) (nearest d.dist nodes) left
    ready-next =
        let N = run-next R.running o in-m C z in
        record {
          runs = record { rank = _; turn = _; running = N; bound = omega (arith, R.bound, N.kept.counted) };
          some = nearer-some R.running o in-m C z;
        }

    pub ready-taken : {dist' hop' list' stack' : List ℕ} {waiting' low top' : ℕ} → list' ≡ written (beyond d.dist current (take d.waiting d.list)) d.list
        → waiting' ≡ length (beyond d.dist current (take d.waiting d.list)) → low ≡ nearest d.dist (beyond d.dist current (take d.waiting d.list))
        → stack' ≡ written (those d.dist low (take waiting' list')) d.stack → top' ≡ length (those d.dist low (take waiting' list'))
        → dist' ≡ d.dist → hop' ≡ d.hop → Ready m sink ways (desk dist' hop' stack' list' top' waiting') low left
    ready-taken {list' = list'} {waiting' = waiting'} l w n s t x y =
        let nodes = beyond d.dist current (take d.waiting d.list) in
        let e : take waiting' list' ≡ nodes = rw (w, l) (take_written nodes d.list) in
        rw (x, y, s, t, e, n, w, l) ready-next

  -- the node on top of the stack is taken from it
  pub spreads_pop : 0 < d.top
      → Spreads m sink ways (desk d.dist d.hop d.stack d.list (d.top - 1) d.waiting) current (left - 1) (get_or d.stack (d.top - 1) 0) 0
  spreads_pop p =
      record { rank = R.rank; turn = R.turn; spreading = run_pop R.running p; bound = omega (arith, R.bound) }

-- and when all ways into it are offered the next turn can begin
pub spreads_on : {m sink : ℕ} {ways : ℕ → ℕ → Way} {d : Desk} {current left u : ℕ} → Spreads m sink ways d current left u 3
    → Runs m sink ways d current left
spreads_on S = record { rank = S.rank; turn = S.turn; running = run_on S.spreading; bound = S.bound }
