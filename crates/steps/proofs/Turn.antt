-- One slot more, from the ways that are listed to what the walk leaves. Assumes nothing.
use mathlib.Core.Path.{◌≡◌, sym, ◌∙◌, ap}
use mathlib.Core.Logic.{inl, inr, ⊎_elim}
use Prim.Native.Nat.{ℕ, suc, ◌+◌, ◌*◌, ◌-◌, ◌≤◌, ◌<◌}
use native.Mathlib.Omega.{arith}
use mathlib.Core.List.{List}
use lib.ListN.{get_or}
use Rattle.model.specs.Model.{Trace}
use Rattle.model.specs.Plans.{Flags, flags_in}
use Rattle.trace.specs.TraceFile.{trace_in}
use Rattle.trace.proofs.Sound.{reqs_length}
use Rattle.network.specs.Sound.{count}
use Rattle.network.proofs.Limits.{bounded_limit}
use Rattle.ways.specs.Promise.{Measured}
use Rattle.ways.proofs.Laws.{length_at, source_inside}
use Rattle.worths.specs.Worths.{Raised}
use Rattle.steps.specs.Lists.{points_in, requests_in}
use Rattle.steps.specs.Ways.{Way, way_into}
use Rattle.steps.specs.Search.{Hop, Found, Finds, Graph, ways_by}
use Rattle.steps.specs.Slots.{Grown, Trail, Walked, Laid}
use Rattle.steps.proofs.WaysLaws.{way_from, way_idle, at_point, found_searched, found_hop}
use Rattle.steps.proofs.WaysLists.{ways_listed}
use Rattle.steps.proofs.OneMore.{Told, worth_limit, first_limit, raised_trail, walked_fits}
use Rattle.steps.proofs.Laying.{laid_again}

-- ---- ways that are the same

module _ {m : ℕ} {ways ways' : ℕ → ℕ → Way} (same : (u kind : ℕ) → u < m → kind < 3 → ways u kind ≡ ways' u kind) {dist rank : List ℕ} where
  hop_same : {v u : ℕ} → u < m → Hop ways dist rank v u → Hop ways' dist rank v u
  hop_same {v} {u} i h =
      let e = same u h.kind i h.kinds in
      record {
        kind = h.kind;
        kinds = h.kinds;
        from = sym (ap (λ (w : Way). w.from) e) ∙ h.from;
        sum = h.sum ∙ ap (λ (w : Way). get_or dist u 0 + w.len) e;
        reached = h.reached;
        earlier = h.earlier;
      }

  -- a search has found as much over them
  pub found_same : {sink : ℕ} {hop : List ℕ} → Found m sink ways dist hop rank → Found m sink ways' dist hop rank
  found_same f = record {
    shortest = λ v kind h l. rw (← same v kind h l) (f.shortest v kind h l);
    hops = λ v h r.
        ⊎_elim (λ e. inl e) (λ i. ⊎_elim (λ e. inl e) (λ w. inr (hop_same i w)) (f.hops v h r)) (f.onward v h r);
    onward = f.onward;
    inside = f.inside;
    source = f.source;
    ends = f.ends;
  }

module _ {bytes : List ℕ} {n fill k : ℕ} {worth flags from charges old len : List ℕ} (l : Laid bytes n fill k worth flags from charges)
    (m : Measured n fill k from charges flags worth old len) where
  abbrev tr : Trace
  tr = trace_in bytes

  abbrev x : Flags
  x = flags_in flags

  abbrev P : ℕ → ℕ
  P = points_in worth

  abbrev Q : ℕ → ℕ
  Q = requests_in (count tr) worth

  size : n ≡ count tr
  size = l.lists.size ∙ sym (reqs_length bytes)

  few : n ≤ 1024
  few = omega (arith, size, l.lists.within.requests)

  -- ---- what the search is handed

  ways_same : (u kind : ℕ) → u < suc (2 * n) → kind < 3 → ways_by from len u kind ≡ way_into tr k x P Q u kind
  unfolding ways_by
  ways_same u kind h o =
      rw (l.lists.sources u kind h o, length_at m few u kind h o) (ways_listed bytes n fill k from charges flags worth l.lists l.fits u kind h o)

  idle_same : (g : ℕ) → g < n → ways_by from len (suc g) 2 ≡ way_from g (P g - P (suc g))
  idle_same g h =
      let b : suc g - 1 ≡ g = omega arith in
      ways_same (suc g) 2 (omega arith) (omega arith) ∙ at_point tr k x P Q (suc g) 2 (omega (arith, size)) ∙ way_idle tr k x P Q (suc g) (omega arith)
      ∙ ap (λ (p : ℕ). way_from p (P p - P (suc g))) b

  pub turn_graph : Graph n from len
  turn_graph = record {
    few = few;
    inside = λ u kind h o. rw (l.lists.sources u kind h o) (source_inside n l.lists.next l.lists.prev u kind h);
    worth = P;
    chain = record {
      end = omega arith;
      bound = λ g h. omega (arith, (bounded_limit tr k x P Q l.lists.within l.fits.sound l.fits.bounded).0 g (omega (arith, size)));
      from = λ g h. ap (λ (w : Way). w.from) (idle_same g h);
      length = λ g h.
          omega (arith, ap (λ (w : Way). w.len) (idle_same g h), l.fits.sound.idle g (omega (arith, size)));
    };
  }

  -- ---- what it has found

  module _ {dist hop : List ℕ} (f : Finds (suc (2 * n)) n (ways_by from len) dist hop) where
    found_here : Found (suc (2 * count tr)) (count tr) (way_into tr k x P Q) dist hop f.rank
    found_here = rw size at (found_same ways_same f.found)

    found-told : Told tr k flags worth dist hop f.rank
    found-told = record {
      searched = found_searched tr k x P Q l.fits.sound dist hop f.rank found_here;
      ends = found_here.ends;
      source = found_here.source;
      near = found_here.inside;
      hops = found_hop tr k x P Q l.fits.sound dist hop f.rank found_here;
    }

    -- raised worths stay below the limit
    turn-limit : (v : ℕ) → v < 2 * n + 1 → get_or worth v 0 + (get_or dist 0 0 - get_or dist v 0) ≤ 4294967295
    turn-limit v h =
        let t = found-told in
        omega (
          arith,
          worth_limit l.lists.within l.fits v (omega (arith, size)),
          first_limit l.lists.within l.fits (λ u. get_or dist u 0) t.searched t.ends,
        )

    module _ {new : List ℕ} (r : Raised dist (2 * n + 1) (get_or dist 0 0) worth new) where
      grown-all : Grown dist (suc (2 * count tr)) (get_or dist 0 0) worth new
      grown-all = record {
        long = r.long;
        grown = λ v h.
            r.grown v (omega (arith, size)) (omega (arith, l.lists.within.requests))
            ∙ omega (arith, turn-limit v (omega (arith, size)));
      }

      -- the walk can go
      pub turn-trail : Trail tr n k flags new hop
      turn-trail =
          raised_trail l.fits found-told grown-all n size few l.flags_long f.hop_long

      -- and lays one slot more
      pub turn-laid : {moved : List ℕ} → k < 64 → Walked tr (suc k) moved new → Laid bytes n fill (suc k) new moved from charges
      turn-laid {moved} few w =
          laid_again l (suc k) new moved few (walked_fits l.fits found-told grown-all moved w) (r.long ∙ l.worth_long) w.flags_long
