-- Three numbers to a node, stored one node after the other. Assumes nothing.
use mathlib.Core.Path.{◌≡◌, refl, sym, ◌∙◌, ap}
use Prim.Native.Nat.{ℕ, zero, suc, ◌+◌, ◌*◌, ◌≤◌, ◌<◌}
use native.Mathlib.Omega.{arith}
use mathlib.Core.List.{List, [], ◌∷◌, ◌++◌, append_assoc}
use lib.ListN.{length, get_or, set, drop, length-set}
use lib.Seq.{drop-cons, set_comm, set_at}
use Rattle.ways.specs.Promise.{rows, listed}
use Rattle.ways.specs.Parts.{put_at, put_rows, put_both}

-- ---- lists of rows

pub length-rows : (f : ℕ → ℕ → ℕ) (k u : ℕ) → length (rows f k u) ≡ 3 * k
unfolding rows
length-rows f zero u = refl
length-rows f (suc k) u = omega (arith, length-rows f k (suc u))

-- one node more
rows_more : (f : ℕ → ℕ → ℕ) (k u : ℕ) → rows f (suc k) u ≡ rows f k u ++ (f (u + k) 0 ∷ f (u + k) 1 ∷ f (u + k) 2 ∷ [])
unfolding rows
rows_more f zero u = let e : u + 0 ≡ u = omega arith in rw e
rows_more f (suc k) u =
    let e : u + suc k ≡ suc u + k = omega arith in
    rw e (ap (λ (l : List ℕ). f u 0 ∷ f u 1 ∷ f u 2 ∷ l) (rows_more f k (suc u)))

-- what stands in the row of node j
pub row_at : (f : ℕ → ℕ → ℕ) (k u j kind : ℕ) (q : List ℕ) → j < k → kind < 3 → get_or (rows f k u ++ q) (3 * j + kind) 0 ≡ f (u + j) kind
unfolding rows
row_at f zero u j kind q h l = absurd (omega arith)
row_at f (suc k) u zero zero q h l = let e : u + 0 ≡ u = omega arith in rw e
row_at f (suc k) u zero (suc zero) q h l = let e : u + 0 ≡ u = omega arith in rw e
row_at f (suc k) u zero (suc (suc zero)) q h l = let e : u + 0 ≡ u = omega arith in rw e
row_at f (suc k) u zero (suc (suc (suc kind))) q h l = absurd (omega arith)
row_at f (suc k) u (suc j) kind q h l =
    let e : 3 * suc j + kind ≡ suc (suc (suc (3 * j + kind))) = omega arith in
    let d : u + suc j ≡ suc u + j = omega arith in
    rw (e, d) (row_at f k (suc u) j kind q (omega arith) l)

-- ---- lists of one number to a request

pub length-listed : (f : ℕ → ℕ) (k t : ℕ) → length (listed f k t) ≡ k
unfolding listed
length-listed f zero t = refl
length-listed f (suc k) t = ap suc (length-listed f k (suc t))

-- one request more
listed_more : (f : ℕ → ℕ) (k t : ℕ) → listed f (suc k) t ≡ listed f k t ++ (f (t + k) ∷ [])
unfolding listed
listed_more f zero t = let e : t + 0 ≡ t = omega arith in rw e
listed_more f (suc k) t =
    let e : t + suc k ≡ suc t + k = omega arith in
    rw e (ap (λ (l : List ℕ). f t ∷ l) (listed_more f k (suc t)))

-- what stands at the place of request j
pub listed_at : (f : ℕ → ℕ) (k t j : ℕ) (q : List ℕ) → j < k → get_or (listed f k t ++ q) j 0 ≡ f (t + j)
unfolding listed
listed_at f zero t j q h = absurd (omega arith)
listed_at f (suc k) t zero q h = let e : t + 0 ≡ t = omega arith in rw e
listed_at f (suc k) t (suc j) q h =
    let e : t + suc j ≡ suc t + j = omega arith in
    rw e (listed_at f k (suc t) j q (omega arith))

-- one request more is stored
pub listed_step : (f : ℕ → ℕ) (t : ℕ) (l : List ℕ) → t < length l → set (listed f t 0 ++ drop t l) t (f t) ≡ listed f (suc t) 0 ++ drop (suc t) l
listed_step f t l h =
    let z : 0 + t ≡ t = omega arith in
    let m : listed f (suc t) 0 ≡ listed f t 0 ++ (f t ∷ []) = rw z at (listed_more f t 0) in
    ap (λ (q : List ℕ). set (listed f t 0 ++ q) t (f t)) (drop-cons l t 0 h)
    ∙ set_at (listed f t 0) (get_or l t 0) (drop (suc t) l) (f t) t (length-listed f t 0)
    ∙ sym (ap (λ (q : List ℕ). q ++ drop (suc t) l) m ∙ append_assoc (listed f t 0) (f t ∷ []) (drop (suc t) l))

-- ---- storing

pub length-put : (l : List ℕ) (u a b c : ℕ) → length (put_at l u a b c) ≡ length l
length-put l u a b c = simp length-set

pub length-put_rows : (f : ℕ → ℕ → ℕ) (v k : ℕ) (l : List ℕ) → length (put_rows f v k l) ≡ length l
unfolding put_rows
length-put_rows f v zero l = refl
length-put_rows f v (suc k) l = length-put (put_rows f v k l) (v + k) (f k 0) (f k 1) (f k 2) ∙ length-put_rows f v k l

-- a place past the first of two lists
set_add : (p q : List ℕ) (i a : ℕ) → set (p ++ q) (length p + i) a ≡ p ++ set q i a
set_add [] q i a = let e : 0 + i ≡ i = omega arith in rw e
set_add (x ∷ p) q i a =
    let e : suc (length p) + i ≡ suc (length p + i) = omega arith in
    rw e (ap (λ (l : List ℕ). x ∷ l) (set_add p q i a))

-- three places past it
set_three : (p q : List ℕ) (x y z a b c i₀ i₁ i₂ : ℕ) → i₀ ≡ length p + 0 → i₁ ≡ length p + 1 → i₂ ≡ length p + 2
    → set (set (set (p ++ x ∷ y ∷ z ∷ q) i₀ a) i₁ b) i₂ c ≡ p ++ a ∷ b ∷ c ∷ q
set_three p q x y z a b c i₀ i₁ i₂ e₀ e₁ e₂ =
    rw (e₀, e₁, e₂, set_add p (x ∷ y ∷ z ∷ q) 0 a, set_add p (a ∷ y ∷ z ∷ q) 1 b, set_add p (a ∷ b ∷ z ∷ q) 2 c)

-- the rows laid so far stand in front
pub rows_laid : (f : ℕ → ℕ → ℕ) (k : ℕ) (l : List ℕ) → 3 * k ≤ length l → put_rows f 0 k l ≡ rows f k 0 ++ drop (3 * k) l
unfolding put_rows rows
rows_laid f zero l h = refl
rows_laid f (suc k) l h =
    let z : 0 + k ≡ k = omega arith in
    let x = get_or l (3 * k) 0 in
    let y = get_or l (suc (3 * k)) 0 in
    let w = get_or l (suc (suc (3 * k))) 0 in
    let q = drop (suc (suc (suc (3 * k)))) l in
    let d : drop (3 * k) l ≡ x ∷ y ∷ w ∷ q =
    drop-cons l (3 * k) 0 (omega arith) ∙ ap (λ (m : List ℕ). x ∷ m) (drop-cons l (suc (3 * k)) 0 (omega arith)
    ∙ ap (λ (m : List ℕ). y ∷ m) (drop-cons l (suc (suc (3 * k))) 0 (omega arith))) in
    let t : 3 * suc k ≡ suc (suc (suc (3 * k))) = omega arith in
    let p = rows f k 0 in
    let n : length p ≡ 3 * k = length-rows f k 0 in
    let a = f k 0 in
    let b = f k 1 in
    let c = f k 2 in
    let s : put_at (p ++ x ∷ y ∷ w ∷ q) k a b c ≡ p ++ a ∷ b ∷ c ∷ q =
    set_three p q x y w a b c (3 * k) (3 * k + 1) (3 * k + 2) (omega arith) (omega arith) (omega arith) in
    let m : rows f (suc k) 0 ≡ p ++ (a ∷ b ∷ c ∷ []) = rw z at (rows_more f k 0) in
    ap (λ (i : ℕ). put_at (put_rows f 0 k l) i a b c) z
    ∙ ap (λ (m : List ℕ). put_at m k a b c) (rows_laid f k l (omega arith) ∙ ap (λ (m : List ℕ). p ++ m) d)
    ∙ s
    ∙ sym (ap (λ (m : List ℕ). m ++ drop (3 * suc k) l) m
    ∙ append_assoc p (a ∷ b ∷ c ∷ []) (drop (3 * suc k) l)
    ∙ ap (λ (i : ℕ). p ++ a ∷ b ∷ c ∷ drop i l) t)

-- two functions that say the same of what is stored
pub put_rows-same : (f g : ℕ → ℕ → ℕ) (v k : ℕ) (l : List ℕ) → ((j kind : ℕ) → j < k → f j kind ≡ g j kind) → put_rows f v k l ≡ put_rows g v k l
unfolding put_rows
put_rows-same f g v zero l h = refl
put_rows-same f g v (suc k) l h =
    rw (h k 0 (omega arith), h k 1 (omega arith), h k 2 (omega arith), put_rows-same f g v k l (λ j kind m. h j kind (omega arith)))

-- rows stored past the first v nodes
pub put_rows-join : (f g : ℕ → ℕ → ℕ) (v k : ℕ) (l : List ℕ) → ((j kind : ℕ) → j < k → g j kind ≡ f (v + j) kind)
    → put_rows g v k (put_rows f 0 v l) ≡ put_rows f 0 (v + k) l
unfolding put_rows
put_rows-join f g v zero l h = let e : v + 0 ≡ v = omega arith in rw e
put_rows-join f g v (suc k) l h =
    let e : v + suc k ≡ suc (v + k) = omega arith in
    let z : 0 + (v + k) ≡ v + k = omega arith in
    rw (e, z, h k 0 (omega arith), h k 1 (omega arith), h k 2 (omega arith), put_rows-join f g v k l (λ j kind m. h j kind (omega arith)))

-- ---- points and requests by turns

-- one number stored before or after three others
set_down : (l : List ℕ) (u a b c i x : ℕ) → (3 * u ≡ i → ⊥) → (3 * u + 1 ≡ i → ⊥) → (3 * u + 2 ≡ i → ⊥)
    → set (put_at l u a b c) i x ≡ put_at (set l i x) u a b c
set_down l u a b c i x p q r =
    set_comm (set (set l (3 * u) a) (3 * u + 1) b) (3 * u + 2) i c x r
    ∙ ap (λ (m : List ℕ). set m (3 * u + 2) c) (set_comm (set l (3 * u) a) (3 * u + 1) i b x q)
    ∙ ap (λ (m : List ℕ). set (set m (3 * u + 1) b) (3 * u + 2) c) (set_comm l (3 * u) i a x p)

-- two nodes in either order
put_swap : (l : List ℕ) (u a b c w x y z : ℕ) → w < u → put_at (put_at l u a b c) w x y z ≡ put_at (put_at l w x y z) u a b c
put_swap l u a b c w x y z h =
    ap (λ (m : List ℕ). set (set m (3 * w + 1) y) (3 * w + 2) z)
    (set_down l u a b c (3 * w) x (λ e. omega (arith, e, h)) (λ e. omega (arith, e, h)) (λ e. omega (arith, e, h)))
    ∙ ap (λ (m : List ℕ). set m (3 * w + 2) z)
    (set_down (set l (3 * w) x) u a b c (3 * w + 1) y (λ e. omega (arith, e, h)) (λ e. omega (arith, e, h)) (λ e. omega (arith, e, h)))
    ∙ set_down (set (set l (3 * w) x) (3 * w + 1) y) u a b c (3 * w + 2) z (λ e. omega (arith, e, h)) (λ e. omega (arith, e, h))
    (λ e. omega (arith, e, h))

-- a node before rows that are stored
put_over : (f : ℕ → ℕ → ℕ) (v k : ℕ) (l : List ℕ) (u a b c : ℕ) → u < v → put_at (put_rows f v k l) u a b c ≡ put_rows f v k (put_at l u a b c)
unfolding put_rows
put_over f v zero l u a b c h = refl
put_over f v (suc k) l u a b c h =
    put_swap (put_rows f v k l) (v + k) (f k 0) (f k 1) (f k 2) u a b c (omega arith)
    ∙ ap (λ (m : List ℕ). put_at m (v + k) (f k 0) (f k 1) (f k 2)) (put_over f v k l u a b c h)

-- one point more
point_more : (p r : ℕ → ℕ → ℕ) (n g t : ℕ) (l : List ℕ) → g ≤ n → put_at (put_both p r n g t l) g (p g 0) (p g 1) (p g 2) ≡ put_both p r n (suc g) t l
unfolding put_rows
point_more p r n g t l h =
    let z : 0 + g ≡ g = omega arith in
    put_over r (n + 1) t (put_rows p 0 g l) g (p g 0) (p g 1) (p g 2) (omega arith)
    ∙ sym (ap (λ (i : ℕ). put_rows r (n + 1) t (put_at (put_rows p 0 g l) i (p g 0) (p g 1) (p g 2))) z)

-- the numbers of a node, as a function says them
pub record Says (f : ℕ → ℕ → ℕ) (u a b c : ℕ) : Type 0 where
  pub first : a ≡ f u 0
  pub second : b ≡ f u 1
  pub third : c ≡ f u 2

-- t points and t requests are stored
pub record Laying (p r : ℕ → ℕ → ℕ) (n : ℕ) (old l : List ℕ) (t : ℕ) : Type 0 where
  pub upto : t ≤ n
  pub laid : l ≡ put_both p r n t t old
  pub long : length l ≡ 6150

module _ (p r : ℕ → ℕ → ℕ) (n : ℕ) (old : List ℕ) where
  pub laying_start : length old ≡ 6150 → Laying p r n old old 0
  unfolding put_rows
  laying_start h = record { upto = omega arith; laid = refl; long = h }

  put_point : (l l' : List ℕ) (g t a b c : ℕ) → g ≤ n → l ≡ put_both p r n g t old → Says p g a b c → l' ≡ put_at l g a b c
      → l' ≡ put_both p r n (suc g) t old
  put_point l l' g t a b c h e s q = q ∙ rw (s.first, s.second, s.third, e) (point_more p r n g t old h)

  put_request : (l l' : List ℕ) (g t a b c : ℕ) → l ≡ put_both p r n g t old → Says r t a b c → l' ≡ put_at l (n + 1 + t) a b c
      → l' ≡ put_both p r n g (suc t) old
  unfolding put_rows
  put_request l l' g t a b c e s q = q ∙ rw (s.first, s.second, s.third, e)

  pub laying_turn : (l l₁ l₂ : List ℕ) (t a b c x y z : ℕ) → Laying p r n old l t → t < n → Says p t a b c → Says r t x y z
      → l₁ ≡ put_at l t a b c → l₂ ≡ put_at l₁ (n + 1 + t) x y z → Laying p r n old l₂ (t + 1)
  laying_turn l l₁ l₂ t a b c x y z w h i j d e =
      let s : suc t ≡ t + 1 = omega arith in
      let f : l₂ ≡ put_both p r n (suc t) (suc t) old =
      put_request l₁ l₂ (suc t) t x y z (put_point l l₁ t t a b c w.upto w.laid i d) j e in
      record {
        upto = omega arith;
        laid = rw s at f;
        long = ap length e ∙ length-put l₁ (n + 1 + t) x y z ∙ ap length d ∙ length-put l t a b c ∙ w.long;
      }

  pub laying_end : (l l' : List ℕ) (t a b c : ℕ) → Laying p r n old l t → n ≤ t → Says p n a b c → l' ≡ put_at l n a b c
      → l' ≡ put_both p r n (suc n) n old
  laying_end l l' t a b c w h s e =
      let q : t ≡ n = omega (arith, w.upto) in
      put_point l l' n n a b c (omega arith) (rw q at w.laid) s e

-- all nodes are stored
pub both_laid : (f p r : ℕ → ℕ → ℕ) (n : ℕ) (l : List ℕ) → 3 * suc (2 * n) ≤ length l → ((g kind : ℕ) → g < suc n → p g kind ≡ f g kind)
    → ((t kind : ℕ) → t < n → r t kind ≡ f (n + 1 + t) kind) → put_both p r n (suc n) n l ≡ rows f (suc (2 * n)) 0 ++ drop (3 * suc (2 * n)) l
both_laid f p r n l h x y =
    let e : n + 1 + n ≡ suc (2 * n) = omega arith in
    let s : suc n ≡ n + 1 = omega arith in
    ap (λ (m : List ℕ). put_rows r (n + 1) n m) (put_rows-same p f 0 (suc n) l x ∙ ap (λ (i : ℕ). put_rows f 0 i l) s)
    ∙ put_rows-join f r (n + 1) n l y
    ∙ ap (λ (i : ℕ). put_rows f 0 i l) e
    ∙ rows_laid f (suc (2 * n)) l h

pub length_both : (p r : ℕ → ℕ → ℕ) (n k t : ℕ) (l : List ℕ) → length (put_both p r n k t l) ≡ length l
length_both p r n k t l = length-put_rows r (n + 1) t (put_rows p 0 k l) ∙ length-put_rows p 0 k l
