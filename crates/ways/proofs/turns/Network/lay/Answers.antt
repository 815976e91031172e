use borrow.Author.Rules.{rules}
use Rattle.ways.proofs.Steps.{measuring-start, measuring-turn, measuring-end}
use Rattle.ways.proofs.turns.Network.lay.Goals as goal

pub loop-t-init : goal.loop-t-init
loop-t-init c = let s = c.args.self.now in measuring-start s.n s.fill c.args.k s.from.now s.charges.now s.flags.now s.worth.now c.args.len.now (search rules)

pub loop-t-preserved : goal.loop-t-preserved
loop-t-preserved c =
    let s = c.args.self.now in
    let l = c.loop-t in
    measuring-turn s.n s.fill c.args.k s.from.now s.charges.now s.flags.now s.worth.now c.args.len.now l.len l.c l.t _ _ _ _ _ _ _ _ _ l.invariant c.loop-t-test.true c.turn-s.ensures c.across.ensures c.idle.ensures c.put.ensures c.put-in-loop-t.ensures

pub returns : goal.returns
returns c =
    let s = c.args.self.now in
    let l = c.loop-t in
    measuring-end s.n s.fill c.args.k s.from.now s.charges.now s.flags.now s.worth.now c.args.len.now l.len l.c l.t _ _ l.invariant c.loop-t-test.false c.idle-2.ensures c.put-2.ensures
