use mathlib.Core.Path.{◌≡◌, ◌∙◌}
use native.Mathlib.Numerals.{add-one}
use lib.ListN.{get_or}
use Rattle.fields.specs.Bytes.{bytes_of}
use Rattle.writer.proofs.Laying.{four_low, rent_more}
use Rattle.writer.proofs.bytes.lay_rents.Goals as goal

pub loop-t-preserved : goal.loop-t-preserved
loop-t-preserved c =
    let l = c.loop-t in
    let a = c.args in
    let e : c.to_le_bytes.result ≡ bytes_of 4 (get_or a.rents.now l.t 0) = c.to_le_bytes.ensures ∙ four_low _ in
    c.lay.ensures ∙ rw (add-one, l.invariant, e) (rent_more a.buffer.now a.rents.now a.at l.t c.loop-t-test.true)
