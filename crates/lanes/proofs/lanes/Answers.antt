use borrow.Author.Rules.{rules}
use Rattle.lanes.proofs.Laws.{replay_sound, lists_ready}
use Rattle.lanes.proofs.lanes.Goals as goal

pub returns-in_err-fill : goal.returns-in_err-fill
returns-in_err-fill c = absurd (replay_sound _ _ _ _ c.in_ok-replay.ensures c.in_err-fill.ensures.answer)

pub draw-requires : goal.draw-requires
draw-requires c = lists_ready c.in_ok-replay.ensures c.fill.ensures (search rules)
