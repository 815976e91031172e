use mathlib.Core.Path.{◌≡◌}
use native.Mathlib.Omega.{arith}
use Prim.Native.Nat.{◌/◌}
use Rattle.fields.specs.Bytes.{bytes_of}
use Rattle.records.proofs.head.Goals as goal

pub returns : goal.returns
unfolding bytes_of
returns c =
    let f = c.args.fill in
    let two : f / 65536 ≡ f / 256 / 256 = omega arith in
    let three : f / 16777216 ≡ f / 256 / 256 / 256 = omega arith in
    rw (c.to_le_bytes.ensures, c.to_le_bytes-2.ensures, two, three)
