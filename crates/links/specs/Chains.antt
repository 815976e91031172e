-- What the crate's own functions promise one another while the links are found, by chains of the requests whose items are equal modulo n.
-- The promise of `fill` cites none of it.
-- Assumes nothing.
use Rattle.std.specs.Prelude.{◌≡◌, ℕ, suc, ◌≤◌, ◌<◌, ◌%◌, List, ◌⊎◌, ◌++◌, length, get_or, drop}
use Rattle.model.specs.Numbers.{max_requests}
use Rattle.trace.specs.TraceFile.{item_at}

-- m is the first of the n requests from t on whose key is v, or n if there is none
pub record First (key : ℕ → ℕ) (n v t m : ℕ) : Type 0 where
  pub from : t ≤ m
  pub upto : m ≤ n
  pub has : m < n → key m ≡ v
  pub none : (s : ℕ) → t ≤ s → s < m → key s ≡ v → ⊥

-- the item of request t
abbrev pub item_in : (items : List ℕ) → (t : ℕ) → ℕ
item_in items t = get_or items t 0

-- its bucket, of which there are n
abbrev pub bucket_in : (items : List ℕ) → (n t : ℕ) → ℕ
bucket_in items n t = get_or items t 0 % n

-- from request t on, each request's place in chain has the next of its bucket
pub record Chained (items chain : List ℕ) (n t : ℕ) : Type 0 where
  pub on : (s : ℕ) → t ≤ s → s < n → First (bucket_in items n) n (bucket_in items n s) (suc s) (get_or chain s 0)

-- from request t on, each request's place in next has the next of its item
pub record Nexts (items next : List ℕ) (n t : ℕ) : Type 0 where
  pub on : (s : ℕ) → t ≤ s → s < n → First (item_in items) n (item_in items s) (suc s) (get_or next s 0)

-- each bucket's place in head has its first request from t on
pub record Heads (items head : List ℕ) (n t : ℕ) : Type 0 where
  pub on : (b : ℕ) → b < n → First (bucket_in items n) n b t (get_or head b 0)

-- the lists have room for n requests
pub record Room (items next chain : List ℕ) (n : ℕ) : Type 0 where
  pub few : n ≤ max_requests
  pub all_next : n ≤ length next
  pub all_chain : n ≤ length chain

-- where the walk for the next request of t may start
pub record Ready (items chain : List ℕ) (n t start : ℕ) : Type 0 where
  pub all_chain : n ≤ length chain
  pub here : t < n
  pub first : First (bucket_in items n) n (bucket_in items n t) (suc t) start
  pub chained : Chained items chain n (suc t)

-- no request is the next of two
pub record Single (next prev : List ℕ) (n : ℕ) : Type 0 where
  pub few : n ≤ max_requests
  pub all_prev : n ≤ length prev
  pub one : (s t : ℕ) → s < n → t < n → get_or next s 0 ≡ get_or next t 0 → get_or next t 0 < n → s ≡ t

-- prev undoes next for the requests below t, and has n where there is nothing to undo
pub record Undoes (next prev : List ℕ) (n t : ℕ) : Type 0 where
  pub back : (s : ℕ) → s < t → get_or next s 0 < n → get_or prev (get_or next s 0) 0 ≡ s
  pub else : (u : ℕ) → u < n → (get_or prev u 0 ≡ n) ⊎ ((get_or prev u 0 < t) × (get_or next (get_or prev u 0) 0 ≡ u))

-- the links of these items stand in front of the two lists, whose rest is kept
pub record Laid (items next prev next' prev' : List ℕ) : Type 0 where
  pub front_next : List ℕ
  pub front_prev : List ℕ
  pub nexts : Nexts items front_next (length items) 0
  pub prevs : Undoes front_next front_prev (length items) (length items)
  pub all_next : length front_next ≡ length items
  pub all_prev : length front_prev ≡ length items
  pub rest_next : next' ≡ front_next ++ drop (length items) next
  pub rest_prev : prev' ≡ front_prev ++ drop (length items) prev

-- the first n of these are the items of a trace's requests
pub record Read (trace items : List ℕ) (n : ℕ) : Type 0 where
  pub on : (t : ℕ) → t < n → get_or items t 0 ≡ item_at trace t
