use Rattle.std.proofs.Common.{min, arith, sym, rules}
use Rattle.fields.specs.Bytes.{num_at}
use Rattle.fields.proofs.Numbers.{num_past, num_more, more_below, more_fits, below_some}
use Rattle.fields.proofs.number_at.Goals as goal

pub loop-passed-init : goal.loop-passed-init
unfolding num_at
loop-passed-init g c = search rules

pub overflow_mul-number : goal.overflow_mul-number
overflow_mul-number g c =
    let l = c.loop-passed in
    omega (arith, more_fits l.passed l.number 0 (omega arith) l.invariant.fits (omega arith))

pub overflow_add-number : goal.overflow_add-number
overflow_add-number g c =
    let l = c.loop-passed in
    omega (arith, more_fits l.passed l.number c.byte_at.result (omega arith) l.invariant.fits c.byte_at.ensures.1)

pub loop-passed-preserved : goal.loop-passed-preserved
loop-passed-preserved g c =
    let l = c.loop-passed in
    let a = c.args in
    record {
      passed = rw (l.invariant.passed, c.byte_at.ensures.0) (sym (num_more l.passed c.min-size.result a.at a.s.now c.loop-passed-test.true));
      fits = more_below l.passed l.number c.byte_at.result l.invariant.fits c.byte_at.ensures.1;
    }

pub returns-else-at-s : goal.returns-else-at-s
returns-else-at-s g c =
    let a = c.args in
    (sym (num_past (min g.row.K 8) a.at a.s.now (omega arith)), below_some (min g.row.K 8))
