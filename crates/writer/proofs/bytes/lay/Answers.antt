use native.Mathlib.Numerals.{add-one}
use Rattle.writer.proofs.Laying.{byte_more}
use Rattle.writer.proofs.bytes.lay.Goals as goal

pub loop-i-preserved : goal.loop-i-preserved
loop-i-preserved c =
    let l = c.loop-i in
    let a = c.args in
    rw (add-one, l.invariant) (byte_more a.buffer.now a.bytes.now a.at l.i c.loop-i-test.true)
