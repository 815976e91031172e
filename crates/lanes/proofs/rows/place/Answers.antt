use mathlib.Core.Path.{◌≡◌, ◌∙◌, ap}
use Prim.Native.Nat.{ℕ}
use mathlib.Core.Bool.{false}
use lib.ListN.{length}
use Rattle.std.proofs.Common.{Option}
use Rattle.std.specs.Option.{unwrap_or}
use Rattle.replay.specs.Linked.{held_by}
use Rattle.lanes.proofs.Free.{found}
use Rattle.lanes.proofs.rows.place.Goals as goal

pub returns-else-held : goal.returns-else-held
returns-else-held c =
    let a = c.args in
    let k : false ≡ held_by a.kept.now.flags.now a.kept.now.links.now.prev a.t = c.if-held.ensures in
    rw (← k) (c.unwrap_or.ensures ∙ ap (λ (o : Option ℕ). unwrap_or o (length a.busy.now)) c.free.ensures ∙ found a.busy.now)
