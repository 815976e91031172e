-- The ways by the lists: one that is open is offered, and so is one that is closed, which counts as none. Assumes nothing.
use mathlib.Core.Path.{◌≡◌, refl, sym, subst}
use mathlib.Core.List.{List}
use Prim.Native.Nat.{ℕ, suc, ◌+◌, ◌*◌, ◌≤◌, ◌<◌}
use native.Mathlib.Decide.{dec_lt}
use native.Mathlib.Omega.{arith}
use borrow.Author.Tests.{lt-ltb, le-ltb}
use lib.ListN.{get_or}
use Rattle.frontier.specs.Frontier.{far, Desk, offered}
use Rattle.frontier.proofs.Desks.{offered-stay}
use Rattle.steps.specs.Search.{ways_by, Graph}
use Rattle.steps.proofs.SearchOffer.{Spreads, spreads_stay, spreads_offer}

module _ (from len : List ℕ) (u kind : ℕ) where
  pub way_open : get_or len (3 * u + kind) 0 < far
      → ((ways_by from len u kind).from ≡ get_or from (3 * u + kind) 0) × ((ways_by from len u kind).len ≡ get_or len (3 * u + kind) 0)
  unfolding ways_by
  way_open l = rw (lt-ltb (get_or len (3 * u + kind) 0) far l) (refl, refl)

  pub way_closed : far ≤ get_or len (3 * u + kind) 0 → ((ways_by from len u kind).from ≡ u) × ((ways_by from len u kind).len ≡ 0)
  unfolding ways_by
  way_closed l = rw (le-ltb (get_or len (3 * u + kind) 0) far l) (refl, refl)

module _ {n : ℕ} {from len : List ℕ} (G : Graph n from len) {d : Desk} {current left u s : ℕ}
    (R : Spreads (suc (2 * n)) n (ways_by from len) d current left u s) (small : s < 3) where
  abbrev v : ℕ
  v = get_or from (3 * u + s) 0

  abbrev size : ℕ
  size = get_or len (3 * u + s) 0

  v_inside : v < suc (2 * n)
  v_inside = G.inside u s R.spreading.within small

  v<2050 : v < 2050
  v<2050 = omega (arith, v_inside, G.few)

  -- a closed way brings no node nearer
  beyond_far : far ≤ size → get_or d.dist v 0 ≤ current + size
  beyond_far l = omega (arith, R.spreading.kept.near v)

  abbrev SpreadsOn : Desk → Type 0
  SpreadsOn after = Spreads (suc (2 * n)) n (ways_by from len) after current left u (s + 1)

  -- a closed way
  spreads_closed : far ≤ size → SpreadsOn (offered d u v (current + size) current)
  spreads_closed l =
      let w = way_closed from len u s l in
      subst SpreadsOn (sym (offered-stay d u v (current + size) current v<2050 (beyond_far l)))
      (spreads_stay R small w.0 w.1 R.spreading.within (omega (arith, R.spreading.stood)))

  whatever : SpreadsOn (offered d u v (current + size) current)
  whatever =
      elim (dec_lt size far) [
        | yes l ↦ let w = way_open from len u s l in spreads_offer R small w.0 w.1 v_inside
        | no f ↦ spreads_closed (omega arith)
      ]

  -- after the offer to the node that it comes from
  pub spreads_next : {l : ℕ} → l ≡ size → {after : Desk} → after ≡ offered d u v (current + l) current
      → Spreads (suc (2 * n)) n (ways_by from len) after current left u (s + 1)
  spreads_next e q = subst SpreadsOn (sym q) (rw e whatever)
