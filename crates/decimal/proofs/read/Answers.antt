use mathlib.Core.Path.{◌≡◌, ◌∙◌}
use native.Mathlib.Omega.{arith}
use borrow.Author.Rules.{rules}
use Rattle.std.specs.Prelude.{None}
use Rattle.decimal.proofs.Reading.{number_none, number-zero, number-led, number-long, at-inside}
use Rattle.decimal.proofs.read.Goals as goal

pub returns-in_err-first : goal.returns-in_err-first
returns-in_err-first c =
    let a = c.args in
    let e : c.from_residual.result ≡ None = search rules in
    rw e (record { number = number_none a.text.now a.at a.top 10 c.in_err-first.ensures.digit (omega arith); inside = tt })

pub returns-in-Some : goal.returns-in-Some
returns-in-Some c =
    let a = c.args in
    let f = c.in_ok-first.ensures in
    let s = c.in-Some.ensures in
    record {
      number = number-led a.text.now a.at a.top _ f.digit f.one _ c.if-first-eq0.true s.digit s.one;
      inside = tt;
    }

pub returns-in-None : goal.returns-in-None
returns-in-None c =
    let a = c.args in
    let f = c.in_ok-first.ensures in
    record {
      number = number-zero a.text.now a.at a.top _ f.digit f.one 10 c.if-first-eq0.true c.in-None.ensures.digit (omega arith);
      inside = omega (arith, at-inside a.text.now a.at a.top _ f.digit f.one);
    }

pub returns : goal.returns
returns c =
    let a = c.args in
    let f = c.in_ok-first.ensures in
    record {
      number = c.long.ensures.0 ∙ number-long a.text.now a.at a.top _ f.digit f.one (omega arith);
      inside = c.long.ensures.1;
    }
