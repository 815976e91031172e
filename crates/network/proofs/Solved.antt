-- A sound state of a trace at all its slots is a plan whose cost is the floor of its rents. Assumes nothing.
use mathlib.Core.Path.{◌≡◌, refl, ◌∙◌, ap}
use Prim.Native.Nat.{ℕ, zero, suc, ◌+◌, ◌*◌, ◌≤◌, ◌<◌}
use native.Mathlib.Omega.{arith}
use native.Mathlib.Decide.{dec_lt}
use mathlib.Core.Bool.{true, false}
use mathlib.Core.List.{List, [], ◌∷◌}
use lib.ListN.{length, drop, length-drop}
use lib.Dec.{eqb}
use lib.IntN.{pos}
use borrow.Author.Tests.{lt-ltb, not-true}
use Rattle.model.specs.Model.{Request, Trace, Contents, Rents, items, cost, floor}
use Rattle.model.specs.Plans.{Flags, request_at, contents, may_flag, FlagsFrom, occupancy, SoundFlags}
use Rattle.model.specs.Links.{next_from}
use Rattle.model.proofs.Sums.{split}
use Rattle.model.proofs.Plans.{drop_head, contents_stay, may_held, may_read, flags_name_allowed}
use Rattle.model.proofs.Links.{has_next}
use Rattle.network.specs.Sound.{count, next, read_cost, write_cost, after, before, crowd, Sound, Named}
use Rattle.network.proofs.Local.{Local, LocalFrom, gain, loss}
use Rattle.network.proofs.Strong.{FullFrom, strong_duality}
use Rattle.network.proofs.Held.{is_drop, is_fill, held_before, held_after, crowd_first, falls}

-- ---- what holding is worth, by the number of the next request

module _ (all : List Request) (P Q : ℕ → ℕ) where
  worth_next : (i t : ℕ) (rs : List Request) → drop t all ≡ rs → next_from i t rs < length all
      → (gain P Q i t rs ≡ Q (next_from i t rs) + read_cost (request_at all (next_from i t rs)))
      × (loss i rs ≡ write_cost (request_at all (next_from i t rs)))
  worth_next i t [] d l =
      let e : length (drop t all) ≡ 0 = ap length d in absurd (omega (arith, length-drop t all))
  worth_next i t (r ∷ rs) d l =
      let k = drop_head t all r rs d in
      split (eqb r.item i)
      (λ c. rw (c, k.0) (refl, refl))
      (λ c. rw c (worth_next i (suc t) rs k.1 (rw c at l)))

  worth_none : (i t : ℕ) (rs : List Request) → drop t all ≡ rs → length all ≤ next_from i t rs → t ≤ length all
      → (gain P Q i t rs ≡ P (length all)) × (loss i rs ≡ 0)
  worth_none i t [] d l m =
      let e : length (drop t all) ≡ 0 = ap length d in (ap P (omega (arith, length-drop t all)), refl)
  worth_none i t (r ∷ rs) d l m =
      let k = drop_head t all r rs d in
      split (eqb r.item i)
      (λ c. absurd (omega (arith, rw c at l, k.2)))
      (λ c. rw c (worth_none i (suc t) rs k.1 (rw c at l) k.2))

-- ---- the local conditions of a sound state

module _ (tr : Trace) (k : ℕ) (x : Flags) (P Q : ℕ → ℕ) (s : Sound tr k x P Q) (rent : Rents) (named : Named tr P rent) where
  abbrev S : Contents
  S = contents tr.reqs x

  -- the worth of holding where the item is not held after request t
  apart_at : (t : ℕ) → t < count tr → after x t ≡ false
      → gain P Q (request_at tr.reqs t).item (suc t) (drop (suc t) tr.reqs)
      ≤ Q t + loss (request_at tr.reqs t).item (drop (suc t) tr.reqs)
  apart_at t l a =
      elim (dec_lt (next tr t) (count tr)) [
        | yes z ↦ let v = worth_next tr.reqs P Q (request_at tr.reqs t).item (suc t) (drop (suc t) tr.reqs) refl z in
            omega (arith, v.0, v.1, s.apart t l z a)
        | no z ↦ let v = worth_none tr.reqs P Q (request_at tr.reqs t).item (suc t) (drop (suc t) tr.reqs) refl (omega arith) l in
            omega (arith, v.0, v.1, falls (count tr) P s.idle t (count tr) (omega arith) (omega arith), s.down t l)
      ]

  -- and where it is
  held_at : (t : ℕ) → t < count tr → after x t ≡ true
      → Q t + loss (request_at tr.reqs t).item (drop (suc t) tr.reqs)
      ≤ gain P Q (request_at tr.reqs t).item (suc t) (drop (suc t) tr.reqs)
  held_at t l a =
      let z = s.linked t a in
      let v = worth_next tr.reqs P Q (request_at tr.reqs t).item (suc t) (drop (suc t) tr.reqs) refl z in
      omega (arith, v.0, v.1, s.held t l z a)

  local_at : (t : ℕ) → t < count tr
      → Local tr.rules.fill (request_at tr.reqs t).write (S t (request_at tr.reqs t).item) (S (suc t) (request_at tr.reqs t).item)
      (P t) (Q t) (gain P Q (request_at tr.reqs t).item (suc t) (drop (suc t) tr.reqs))
      (loss (request_at tr.reqs t).item (drop (suc t) tr.reqs))
  local_at t l =
      rw (held_after tr x s.linked t, held_before tr x s.linked t l)
      (record {
        below = s.down t l;
        drops = λ b a. s.drops t l (is_drop _ _ b a);
        above = λ w. s.up t l (rw w);
        fills = λ b a. let f = is_fill _ _ b a in (not-true _ (s.fill_read t l f), s.fills t l f);
        idle = apart_at t l;
        holds = held_at t l;
      })

  pub local_from : (t : ℕ) (rs : List Request) → drop t tr.reqs ≡ rs → LocalFrom tr.rules.fill rent P Q S t rs
  local_from t [] e = tt
  local_from t (r ∷ rs) e =
      let d = drop_head t tr.reqs r rs e in
      (omega (arith, named t d.2, s.idle t d.2), rw (← d.0, ← d.1) (local_at t d.2), local_from (suc t) rs d.1)

  full_from : (t : ℕ) (rs : List Request) → drop t tr.reqs ≡ rs → FullFrom k rent S (items tr.reqs) t rs
  full_from t [] e = tt
  full_from t (r ∷ rs) e =
      let d = drop_head t tr.reqs r rs e in (
        elim (dec_lt (crowd tr x t) k) [
          | yes y ↦ let z : rent (suc t) ≡ 0 = omega (arith, named t d.2, s.free t d.2 y) in rw z (omega arith)
          | no y ↦ ap (λ m. rent (suc t) * m) (omega (arith, s.room t d.2))
        ],
        full_from (suc t) rs d.1,
      )

  -- ---- the flags

  flag_at : (t : ℕ) → t < count tr → after x t ≡ true
      → may_flag tr.rules t (request_at tr.reqs t) (drop (suc t) tr.reqs) S ≡ true
  flag_at t l a =
      let e = has_next tr.reqs t l ∙ lt-ltb _ _ (s.linked t a) in
      rw e
      (split (before tr x t)
      (λ b. may_held tr.rules t (request_at tr.reqs t) (request_at tr.reqs t).item
      (S t (request_at tr.reqs t).item) (held_before tr x s.linked t l ∙ b))
      (λ b. may_read tr.rules t (request_at tr.reqs t) (not-true _ (s.fill_read t l (is_fill _ _ b a)))
      (S t (request_at tr.reqs t).item)))

  stands : (t : ℕ) (rs : List Request) → drop t tr.reqs ≡ rs → FlagsFrom tr.rules t rs x S
  stands t [] e = tt
  stands t (r ∷ rs) e =
      let d = drop_head t tr.reqs r rs e in
      ((λ a. rw (d.0, d.1) at (flag_at t d.2 a)), stands (suc t) rs d.1)

  within : (g : ℕ) → g ≤ count tr → occupancy tr.reqs S g ≤ k
  within zero l = omega (arith, crowd_first tr x)
  within (suc g) l = s.room g l

-- the flags of a sound state are a plan's, and the plan costs the floor of the rents that the worths name
pub sound_solved : (tr : Trace) (x : Flags) (P Q : ℕ → ℕ) → Sound tr tr.rules.slots x P Q → (rent : Rents) → Named tr P rent
    → SoundFlags tr x × (floor tr rent ≡ pos (cost tr (contents tr.reqs x)))
sound_solved tr x P Q s rent named =
    let k = tr.rules.slots in
    let f : SoundFlags tr x = record {
      stand = stands tr k x P Q s rent named 0 tr.reqs refl;
      room = within tr k x P Q s rent named;
    } in (
      f,
      strong_duality tr rent P Q (contents tr.reqs x) (flags_name_allowed tr x f) (contents_stay tr.reqs x 0 tr.reqs refl)
          (local_from tr k x P Q s rent named 0 tr.reqs refl) (full_from tr k x P Q s rent named 0 tr.reqs refl),
    )
