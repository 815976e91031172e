use native.Mathlib.Omega.{arith}
use Rattle.frontier.proofs.Turns.{gather_turn, gather_begin}
use Rattle.frontier.proofs.gather.Goals as goal

pub loop-v-init : goal.loop-v-init
loop-v-init c = (omega arith, gather_begin _ _ _ _)

pub loop-v-preserved : goal.loop-v-preserved
loop-v-preserved c =
    let S = c.loop-v.invariant.1 in
    (grind arith, gather_turn S (grind arith) (grind arith) (λ e b. grind arith) (λ n. grind arith) (λ o. grind arith))
