use mathlib.Core.Bool.{cond}
use mathlib.Core.Path.{◌≡◌, ◌∙◌}
use Rattle.replay.specs.Linked.{flag_at, held_by}
use Rattle.replay.proofs.Steps.{as_number, room_start, room_less, room_hit, room_on, room_end}
use Rattle.replay.proofs.rows.Sound.room.Goals as goal
use Rattle.replay.proofs.rows.Sound.room.Goals.{After-from-in-loop-t}

-- the flags as numbers, of request t and of the one before it
after : (c : After-from-in-loop-t) → c.from.result ≡ cond (flag_at c.args.self.now.kept.flags.now c.loop-t.t) 1 0
after c = c.from.ensures ∙ as_number _ _ c.flag.ensures

before : (c : After-from-in-loop-t) → c.from-in-loop-t.result ≡ cond (held_by c.args.self.now.kept.flags.now c.args.self.now.kept.links.now.prev c.loop-t.t) 1 0
before c = c.from-in-loop-t.ensures ∙ as_number _ _ c.held.ensures

pub loop-t-init : goal.loop-t-init
loop-t-init c = room_start _ _

pub overflow_sub-within : goal.overflow_sub-within
overflow_sub-within c =
    let d = (goal.at.overflow_sub-within c).After-from-in-loop-t in
    room_less c.args.self.now.linked.back c.loop-t.invariant c.loop-t-test.true _ _ (after d) (before d)

pub returns-then-slots-within : goal.returns-then-slots-within
returns-then-slots-within c =
    let d = (goal.at.returns-then-slots-within c).After-from-in-loop-t in
    room_hit c.args.self.now.linked.back c.loop-t.invariant c.loop-t-test.true _ _ (after d) (before d) (rw (← c.slots-slots.ensures.0) c.if-slots-within.true)

pub loop-t-preserved : goal.loop-t-preserved
loop-t-preserved c =
    let d = (goal.at.loop-t-preserved c).After-from-in-loop-t in
    room_on c.args.self.now.linked.back c.loop-t.invariant c.loop-t-test.true _ _ (after d) (before d) (rw (← c.slots-slots.ensures.0) c.if-slots-within.false)

pub returns : goal.returns
returns c = room_end c.args.self.now.linked.back c.loop-t.invariant c.loop-t-test.false
