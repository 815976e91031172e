use native.Mathlib.Omega.{arith}
use Rattle.lines.proofs.Laws.{three_runs}
use Rattle.lines.proofs.worded.Goals as goal

pub returns : goal.returns
returns c =
    let a = c.args in
    three_runs a.line.now c.byte.new.self.bytes.now c.byte.new.self.filled a.cost a.word.now c.requires (omega arith) (omega arith) cc
