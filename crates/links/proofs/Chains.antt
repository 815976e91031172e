-- The walk along a chain, and the chains' growth from the last request to the first. Assumes nothing.
use mathlib.Core.Path.{◌≡◌, refl, sym, ◌∙◌, subst}
use Prim.Native.Nat.{ℕ, suc, ◌≤◌, ◌<◌, ◌-◌}
use native.Mathlib.Omega.{arith}
use native.Mathlib.Nat.{mod-lt}
use native.Mathlib.Decide.{dec_lt}
use mathlib.Core.List.{List}
use lib.ListN.{length, get_or, set, replicate, length-set, length-replicate, get_or-replicate}
use lib.Seq.{get_or-set_same, get_or-set_other}
use lib.Dec.{eqb}
use borrow.Author.Tests.{eqb-true, eqb-false}
use Rattle.model.specs.Numbers.{max_requests}
use Rattle.model.proofs.Sums.{split}
use Rattle.links.specs.Chains.{First, item_in, bucket_in, Chained, Nexts, Heads, Room}

-- the walk for the next request of t has come to j: j is in t's bucket, and t's item is not asked for before j
pub record Walking (items : List ℕ) (n t item j : ℕ) : Type 0 where
  pub same : item ≡ item_in items t
  pub from : suc t ≤ j
  pub upto : j ≤ n
  pub has : j < n → bucket_in items n j ≡ bucket_in items n t
  pub none : (s : ℕ) → suc t ≤ s → s < j → item_in items s ≡ item_in items t → ⊥

-- the requests from t on are chained and have their next requests
pub record Linking (items next₀ chain₀ head next chain : List ℕ) (n t : ℕ) : Type 0 where
  pub upto : t ≤ n
  pub long_head : length head ≡ max_requests
  pub long_next : length next ≡ length next₀
  pub long_chain : length chain ≡ length chain₀
  pub heads : Heads items head n t
  pub chained : Chained items chain n t
  pub nexts : Nexts items next n t

module _ {n t : ℕ} where
  -- a key's first request from t on, once t is looked at
  first_here : (key : ℕ → ℕ) (v : ℕ) → t < n → key t ≡ v → First key n v t t
  first_here key v l e = record {
    from = omega arith;
    upto = omega arith;
    has = λ m. e;
    none = λ s a b z. omega arith;
  }

  first_before : {key : ℕ → ℕ} {v m : ℕ} → First key n v (suc t) m → (key t ≡ v → ⊥) → First key n v t m
  first_before f o = record {
    from = omega (arith, f.from);
    upto = f.upto;
    has = f.has;
    none = λ s a b e. elim (dec_lt t s) [
      | yes y ↦ f.none s y b e
      | no y ↦ let q : s ≡ t = omega arith in o (rw q at e)
    ];
  }

pub link_starts : {items next chain : List ℕ} {n : ℕ} → Room items next chain n
    → Linking items next chain (replicate max_requests n) next chain n n
link_starts {items} {next} {chain} {n} room = record {
  upto = omega arith;
  long_head = length-replicate max_requests n;
  long_next = refl;
  long_chain = refl;
  heads = record {
    on = λ v l. rw (get_or-replicate max_requests v n 0 (omega arith)) (record {
      from = omega arith;
      upto = omega arith;
      has = λ m. absurd (omega arith);
      none = λ s y z e. omega arith;
    });
  };
  chained = record { on = λ s l m. absurd (omega arith) };
  nexts = record { on = λ s l m. absurd (omega arith) };
}

module _ {items next₀ chain₀ head next chain : List ℕ} {n t : ℕ} (room : Room items next₀ chain₀ n)
    (w : Linking items next₀ chain₀ head next chain n (suc t)) where
  below : t < n
  below = w.upto

  in_bucket : bucket_in items n t < n
  in_bucket = mod-lt (item_in items t) (omega (arith, w.upto))

  pub link_steps : (m : ℕ) → First (item_in items) n (item_in items t) (suc t) m
      → Linking items next₀ chain₀ (set head (bucket_in items n t) t) (set next t m) (set chain t (get_or head (bucket_in items n t) 0)) n t
  unfolding below in_bucket
  link_steps m f =
      let b = bucket_in items n t in
      let l : t < n = below in
      let ib : b < n = in_bucket in
      let h0 = w.long_head in
      let n0 = w.long_next in
      let c0 = w.long_chain in
      let room_next = room.all_next in
      let room-chain = room.all_chain in
      let few = room.few in
      record {
        upto = omega arith;
        long_head = length-set head b t ∙ h0;
        long_next = length-set next t m ∙ n0;
        long_chain = length-set chain t (get_or head b 0) ∙ c0;
        heads = record {
          on = λ v y. split (eqb v b)
              (λ e. rw (eqb-true v b e, get_or-set_same head b t 0 (omega arith)) (first_here (bucket_in items n) b l refl))
              (λ e. rw (get_or-set_other head b v t 0 (eqb-false v b e)) (first_before (w.heads.on v y) (λ z. eqb-false v b e (sym z))));
        };
        chained = record {
          on = λ s y z. elim (dec_lt t s) [
            | yes a ↦ rw (get_or-set_other chain t s (get_or head b 0) 0 (λ e. omega arith)) (w.chained.on s a z)
            | no a ↦ let q : s ≡ t = omega arith in
                rw (q, get_or-set_same chain t (get_or head b 0) 0 (omega arith)) (w.heads.on b ib)
          ];
        };
        nexts = record {
          on = λ s y z. elim (dec_lt t s) [
            | yes a ↦ rw (get_or-set_other next t s m 0 (λ e. omega arith)) (w.nexts.on s a z)
            | no a ↦ let q : s ≡ t = omega arith in rw (q, get_or-set_same next t m 0 (omega arith)) f
          ];
        };
      }

-- a request more is left to look at
pub link_back : {items next₀ chain₀ head next chain : List ℕ} {n t : ℕ} → Linking items next₀ chain₀ head next chain n t → 0 < t
    → Linking items next₀ chain₀ head next chain n (suc (t - 1))
link_back {items} {next₀} {chain₀} {head} {next} {chain} {n} {t} w l =
    subst (λ (x : ℕ). Linking items next₀ chain₀ head next chain n x) (omega arith) w
