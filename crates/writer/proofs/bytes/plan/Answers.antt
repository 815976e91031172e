use mathlib.Core.Path.{◌≡◌, ◌∙◌, ap}
use lib.ListN.{length, take}
use Rattle.fields.specs.Bytes.{bytes_of}
use Rattle.writer.proofs.Laying.{two_low, eight_low, plan_laid}
use Rattle.writer.proofs.bytes.plan.Goals as goal

pub returns : goal.returns
returns c =
    let a = c.args in
    let n : take 2 c.to_le_bytes.result ≡ bytes_of 2 (length a.flags.now) = ap (take 2) c.to_le_bytes.ensures ∙ two_low _ in
    let cost : c.to_le_bytes-2.result ≡ bytes_of 8 a.cost = c.to_le_bytes-2.ensures ∙ eight_low _ in
    c.lay_rents.ensures
    ∙ rw (c.lay-4.ensures, c.lay-3.ensures, c.lay-2.ensures, c.lay.ensures, n, cost) (plan_laid a.buffer.now a.cost a.flags.now a.rents.now)
