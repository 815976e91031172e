use native.Mathlib.Omega.{arith}
use borrow.Author.Rules.{rules}
use mathlib.Core.Path.{◌≡◌}
use Prim.Native.Nat.{◌+◌, ◌-◌, max}
use lib.ListN.{length, get_or, set}
use Rattle.worths.proofs.Telling.{tell_turn}
use Rattle.worths.proofs.back.tell.Goals as goal

pub loop-t-preserved : goal.loop-t-preserved
loop-t-preserved c =
    let l = c.loop-t in
    let t = l.t - 1 in
    let ea = c.ahead.ensures in
    let eq : c.max-q.result ≡ max (get_or l.worth (t + 1) 0) c.ahead.result = search rules in
    let long : length l.worth ≡ 2050 = search rules in
    tell_turn c.args.trace.now c.args.n c.args.next.now (set c.args.worth.now c.args.n 0) l.worth l.t t c.max-q.result c.point.result
    (omega arith) c.requires long l.invariant (rw ea at eq) c.point.ensures
