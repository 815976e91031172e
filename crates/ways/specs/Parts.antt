-- What the crate's own functions promise one another while lists are laid. The promises of the public calls cite none of it.
-- Assumes nothing.
use Rattle.std.specs.Prelude.{◌≡◌, ℕ, zero, suc, ◌+◌, ◌*◌, ◌-◌, cond, ◌&&◌, not, List, get_or, set, ltb}
use Rattle.ways.specs.Ways.{
  closed,
  plus,
  minus,
  writes,
  ahead_of,
  behind_of,
  follows,
  precedes,
  kept_by,
  held_by,
  crowd_step,
  crowd_by,
  unheld,
  now_held,
  request_length,
}

-- three values stored at the places of node u
abbrev pub put_at : {A : Type 0} → List A → (u : ℕ) → (a b c : A) → List A
put_at l u a b c = set (set (set l (3 * u) a) (3 * u + 1) b) (3 * u + 2) c

-- what f says of 0, 1, .. , k - 1, stored at the nodes v, v + 1, ..
unfoldable pub put_rows : (f : ℕ → ℕ → ℕ) → (v k : ℕ) → List ℕ → List ℕ
put_rows f v zero l = l
put_rows f v (suc k) l = put_at (put_rows f v k l) (v + k) (f k 0) (f k 1) (f k 2)

-- what p says of k points and r of t requests, stored at their nodes
abbrev pub put_both : (p r : ℕ → ℕ → ℕ) → (n k t : ℕ) → List ℕ → List ℕ
put_both p r n k t l = put_rows r (n + 1) t (put_rows p 0 k l)

-- how many items are held before request t
unfoldable pub crowd_before : (flags from : List ℕ) → (n t : ℕ) → ℕ
crowd_before flags from n zero = 0
crowd_before flags from n (suc t) = crowd_by flags from n t

-- the length of the way into point g from the point before it
abbrev pub idle_way : (worth : List ℕ) → (g : ℕ) → ℕ
idle_way worth g = cond (ltb 0 g) (minus (get_or worth (g - 1) 0) (get_or worth g 0)) closed

-- what a slot behind request t loses by staying behind it
abbrev pub down_way : (n : ℕ) → (worth : List ℕ) → (t : ℕ) → ℕ
down_way n worth t = minus (get_or worth (n + 1 + t) 0) (get_or worth t 0)

-- the length of the way into request t from the next one of its item, if the item is kept
abbrev pub ahead_way : (n : ℕ) → (from charges worth : List ℕ) → (t : ℕ) → ℕ
ahead_way n from charges worth t =
    cond (follows from n t)
    (unheld (get_or worth (ahead_of from n t) 0) (get_or worth (n + 1 + t) 0) (get_or charges (ahead_of from n t - (n + 1)) 0)) closed

-- and from the previous one, if the item is not held
abbrev pub behind_way : (n : ℕ) → (from charges worth : List ℕ) → (t : ℕ) → ℕ
behind_way n from charges worth t =
    cond (precedes from n t) (now_held (get_or worth (behind_of from n t) 0) (get_or worth (n + 1 + t) 0) (get_or charges t 0)) closed

-- and from its point, if the item is not given up
abbrev pub middle_way : (n fill : ℕ) → (charges worth : List ℕ) → (t : ℕ) → ℕ
middle_way n fill charges worth t =
    cond (writes (get_or charges t 0)) closed (minus (plus (get_or worth t 0) fill) (get_or worth (n + 1 + t) 0))

-- what request t brings, if c items are held before it: the count after it, the way into its point, the three ways into it
pub record Turned (n fill : ℕ) (from charges flags worth : List ℕ) (t c crowd down ahead behind middle : ℕ) : Type 0 where
  pub count : crowd ≡ crowd_step flags from n t c
  pub drops : down ≡ cond (kept_by flags t && not (held_by flags from n t)) 0 (down_way n worth t)
  pub nexts : ahead ≡ request_length n fill from charges flags worth t 0
  pub backs : behind ≡ request_length n fill from charges flags worth t 1
  pub fills : middle ≡ request_length n fill from charges flags worth t 2
