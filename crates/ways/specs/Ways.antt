-- The ways into each node of the network that is left over the flags, by lists. Node g is point g, which stands before request g;
-- node n + 1 + t is request t. Requests are counted from 0. Way `kind` (0, 1 or 2) into node u stands at place 3 u + kind.
-- Lengths are numbers of four bytes, so sums are taken modulo 2^32; of a sound trace no sum reaches it. Assumes nothing.
use Rattle.std.specs.Prelude.{ℕ, zero, suc, ◌+◌, ◌*◌, ◌-◌, ◌/◌, ◌%◌, Bool, cond, ◌&&◌, not, List, get_or, ltb, eqb}
use Rattle.trace.specs.TraceFile.{kind_at, cost_at}

-- a length that says closed
abbrev pub closed : ℕ
closed = 4294967295

-- a sum of four bytes
abbrev pub plus : ℕ → ℕ → ℕ
plus a b = (a + b) % 4294967296

-- a difference of four bytes
abbrev pub minus : ℕ → ℕ → ℕ
minus a b = (a + 4294967296 - b) % 4294967296

-- ---- where ways come from

-- where the ways into point g come from: its request, the point after it, the point before it; itself where there is none
abbrev pub point_source : (n g kind : ℕ) → ℕ
point_source n g zero = cond (ltb g n) (n + 1 + g) g
point_source n g (suc zero) = cond (ltb g n) (suc g) g
point_source n g (suc (suc kind)) = g - 1

-- where the ways into request t come from: the next request of its item, the previous one, its point; itself where there is none
abbrev pub request_source : (n : ℕ) → (next prev : List ℕ) → (t kind : ℕ) → ℕ
request_source n next prev t zero = n + 1 + cond (ltb (get_or next t 0) n) (get_or next t 0) t
request_source n next prev t (suc zero) = n + 1 + cond (ltb (get_or prev t 0) n) (get_or prev t 0) t
request_source n next prev t (suc (suc kind)) = t

-- where the way of a kind into node u comes from
unfoldable pub source_by : (n : ℕ) → (next prev : List ℕ) → (u kind : ℕ) → ℕ
source_by n next prev u kind = cond (ltb n u) (request_source n next prev (u - (n + 1)) kind) (point_source n u kind)

-- ---- what requests pay

-- twice request t's cost, and one more if it is a write
abbrev pub charge_at : (tr : List ℕ) → (t : ℕ) → ℕ
charge_at tr t = plus (2 * cost_at tr t) (cond (eqb (kind_at tr t) 1) 1 0)

-- whether a charge is a write's
abbrev pub writes : (charge : ℕ) → Bool
writes c = eqb (c % 2) 1

-- ---- how long ways are

-- the node of the next request of request t's item, as the list of sources has it
abbrev pub ahead_of : (from : List ℕ) → (n t : ℕ) → ℕ
ahead_of from n t = get_or from (3 * (n + 1 + t)) 0

-- the node of the previous one
abbrev pub behind_of : (from : List ℕ) → (n t : ℕ) → ℕ
behind_of from n t = get_or from (3 * (n + 1 + t) + 1) 0

-- whether there is a next one
abbrev pub follows : (from : List ℕ) → (n t : ℕ) → Bool
follows from n t = ltb (n + 1 + t) (ahead_of from n t) && ltb (ahead_of from n t) (suc (2 * n))

-- whether there is a previous one
abbrev pub precedes : (from : List ℕ) → (n t : ℕ) → Bool
precedes from n t = ltb n (behind_of from n t) && ltb (behind_of from n t) (n + 1 + t)

-- whether request t's item is held after it
abbrev pub kept_by : (flags : List ℕ) → (t : ℕ) → Bool
kept_by flags t = eqb (get_or flags t 0) 1

-- whether it is held before it, by the flag of its previous request
abbrev pub held_by : (flags from : List ℕ) → (n t : ℕ) → Bool
held_by flags from n t = precedes from n t && kept_by flags (behind_of from n t - (n + 1))

-- how many items are held after request t, if c are before it
abbrev pub crowd_step : (flags from : List ℕ) → (n t c : ℕ) → ℕ
crowd_step flags from n t c = c + cond (kept_by flags t) 1 0 - cond (held_by flags from n t) 1 0

-- how many items gap t holds
unfoldable pub crowd_by : (flags from : List ℕ) → (n t : ℕ) → ℕ
crowd_by flags from n zero = crowd_step flags from n 0 0
crowd_by flags from n (suc t) = crowd_step flags from n (suc t) (crowd_by flags from n t)

-- what a slot worth q behind a request with this charge loses by giving up an item worth w: by holding it no more
abbrev pub unheld : (q w charge : ℕ) → ℕ
unheld q w c = cond (writes c) (minus (minus q (c / 2)) w) (minus (plus q (c / 2)) w)

-- and by holding it
abbrev pub now_held : (q w charge : ℕ) → ℕ
now_held q w c = cond (writes c) (minus (plus q (c / 2)) w) (minus (minus q (c / 2)) w)

-- how long the ways into point g are, in a trace of n requests with k slots laid: by its request, across a gap with room, from the point before it
abbrev pub point_length : (n k : ℕ) → (from flags worth : List ℕ) → (g kind : ℕ) → ℕ
point_length n k from flags worth g zero =
    cond (ltb g n) (cond (kept_by flags g && not (held_by flags from n g)) 0 (minus (get_or worth (n + 1 + g) 0) (get_or worth g 0))) closed
point_length n k from flags worth g (suc zero) = cond (ltb g n && ltb (crowd_by flags from n g) k) 0 closed
point_length n k from flags worth g (suc (suc kind)) = cond (ltb 0 g) (minus (get_or worth (g - 1) 0) (get_or worth g 0)) closed

-- how long the ways into request t are: by holding the item no more up to the next, by holding it from the previous, by its point
abbrev pub request_length : (n fill : ℕ) → (from charges flags worth : List ℕ) → (t kind : ℕ) → ℕ
request_length n fill from charges flags worth t zero =
    cond (follows from n t && kept_by flags t)
    (unheld (get_or worth (ahead_of from n t) 0) (get_or worth (n + 1 + t) 0) (get_or charges (ahead_of from n t - (n + 1)) 0)) closed
request_length n fill from charges flags worth t (suc zero) =
    cond (precedes from n t && not (held_by flags from n t))
    (now_held (get_or worth (behind_of from n t) 0) (get_or worth (n + 1 + t) 0) (get_or charges t 0)) closed
request_length n fill from charges flags worth t (suc (suc kind)) =
    cond (held_by flags from n t && not (kept_by flags t)) 0
    (cond (writes (get_or charges t 0)) closed (minus (plus (get_or worth t 0) fill) (get_or worth (n + 1 + t) 0)))

-- how long the way of a kind into node u is
unfoldable pub length_by : (n fill k : ℕ) → (from charges flags worth : List ℕ) → (u kind : ℕ) → ℕ
length_by n fill k from charges flags worth u kind =
    cond (ltb n u) (request_length n fill from charges flags worth (u - (n + 1)) kind) (point_length n k from flags worth u kind)
