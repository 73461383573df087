-- The number of hands against the limit. Assumes nothing.
use Prim.Native.Nat.{ℕ, ◌*◌, ◌^◌, ◌≤◌}
use Rattle.std.proofs.Math.Nat.{mul-one, mul-le-mul_left}
use native.Mathlib.Omega.{arith}

-- a number beyond the limit alone is beyond it times another
pub limit_beyond : {b most : ℕ} → 1 ≤ most → (b ≤ 2 ^ 53 → ⊥) → b * most ≤ 2 ^ 53 → ⊥
limit_beyond {b} {most} some over h =
    let f : b * 1 ≤ b * most = mul-le-mul_left b some in
    over (omega (arith, mul-one b))
