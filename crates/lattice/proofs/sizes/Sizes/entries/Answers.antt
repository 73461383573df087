use Rattle.std.proofs.Common.{ℕ, ◌*◌, ap, arith}
use Rattle.lattice.specs.Served.{facts}
use Rattle.lattice.proofs.AddWalk.{table_fits}
use Rattle.lattice.proofs.sizes.Sizes.entries.Goals as goal

pub overflow_mul-result : goal.overflow_mul-result
overflow_mul-result c =
    let s = c.args.self in
    omega (arith, ap (λ (k : ℕ). k * s.n) s.starts, table_fits s.n s.r (facts s.n s.r s.is_served))

pub returns : goal.returns
returns c =
    let s = c.args.self in
    ap (λ (k : ℕ). k * s.n) s.starts
