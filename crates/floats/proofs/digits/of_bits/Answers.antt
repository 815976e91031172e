use mathlib.Core.Path.{◌≡◌, ◌∙◌}
use Prim.Native.Nat.{ℕ, ◌-◌, ◌*◌, ◌/◌, ◌%◌, ◌^◌, ◌≤◌}
use native.Mathlib.Nat.{one-mul}
use native.Mathlib.Omega.{arith}
use lib.Dec.{lit<}
use lib.Pow.{pow_pos, pow_mono, shl_exact}
use Rattle.floats.proofs.digits.of_bits.Goals as goal
use Rattle.floats.proofs.digits.of_bits.Goals.{Start}

shifted : (k : ℕ) → k ≤ 52 → 1 * 2 ^ k % 2 ^ 64 ≡ 2 ^ k
shifted k h = shl_exact 1 k 64 (lit< tt) (omega arith) ∙ one-mul (2 ^ k)

in_place : (c : Start) → 1 * 2 ^ (1075 - c.args.bits / 2 ^ 52) % 2 ^ 64 ≡ 2 ^ (1075 - c.args.bits / 2 ^ 52)
in_place c = shifted (1075 - c.args.bits / 2 ^ 52) (omega arith)

small : (k : ℕ) → k ≤ 52 → 2 ^ k ≤ 2 ^ 52
small k h = pow_mono h

pub of_fraction-requires : goal.of_fraction-requires
of_fraction-requires c =
    let k = 1075 - c.args.bits / 2 ^ 52 in
    rw (in_place (goal.at.of_fraction-requires c).Start) (pow_pos k, small k (omega arith))
