use mathlib.Core.Path.{◌≡◌, refl, ◌∙◌}
use Prim.Native.Nat.{◌+◌}
use lib.ListN.{get_or}
use borrow.Author.Rules.{rules}
use Rattle.sentences.proofs.Laying.{laying_begins, laying_on}
use Rattle.sentences.proofs.write_text.Goals as goal

pub loop-i-init : goal.loop-i-init
loop-i-init c = record { same = refl; laying = laying_begins _ _ _ }

pub loop-i-preserved : goal.loop-i-preserved
loop-i-preserved c =
    let l = c.loop-i in
    let s = c.sign.ensures in
    let next : c.unwrap_or-next.result ≡ get_or c.args.text.now (l.i + 1) 0 = search rules in
    let n : c.unwrap_or-n.result ≡ get_or c.args.numbers.now l.pen.taken 0 = search rules in
    record {
      same = s.same ∙ l.invariant.same;
      laying = laying_on _ _ _ _ l.i _ l.invariant.laying _ _ _ _ c.loop-i-test.true next n s.signed;
    }
