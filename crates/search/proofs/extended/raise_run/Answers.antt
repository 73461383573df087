-- `search::extended::raise_run` meets its contract. The loop's invariant: the entries passed are raised, and the others as they were.
-- Assumes nothing.
use mathlib.Core.Path.{◌≡◌, sym, transport}
use Prim.Native.Nat.{◌+◌, ◌^◌, ◌<◌}
use native.Mathlib.Omega.{arith}
use lib.IntN.{ℤ}
use lib.Signed.{mag}
use mir.Syntax.{w32}
use mir.Val.{to_z, of_z, hbits}
use Rattle.laws.specs.Greatest.{Greatest}
use Rattle.laws.specs.Integer.{at_ℤ, back}
use Rattle.search.specs.Split.{guarded}
use Rattle.search.specs.Raised.{bounded_small, passed_more}
use Rattle.search.proofs.extended.raise_run.Goals as goal

-- entries are read back from bits
read_back : (e x y r : ℤ) → mag e < 2 ^ hbits w32 → mag x < 2 ^ hbits w32 → mag y < 2 ^ hbits w32 → mag r < 2 ^ hbits w32
    → Greatest (to_z w32 (of_z w32 e)) (λ v. v ≡ guarded (to_z w32 (of_z w32 x)) (to_z w32 (of_z w32 y))) r → Greatest e (λ v. v ≡ guarded x y) (to_z w32 (of_z w32 r))
read_back e x y r fe fx fy fr g =
    transport (λ i. Greatest (back e fe i) (λ v. v ≡ guarded (back x fx i) (back y fy i)) (sym (back r fr) i)) g

pub raised-requires : goal.raised-requires
raised-requires c =
    let x = at_ℤ c.args.a.now (c.args.at + c.loop-i.i) in
    let y = at_ℤ c.args.b.now c.args.to in
    rw (back x (omega arith), back y (omega arith))
    (record { left = bounded_small c.args.a.now c.requires.a_bound _; right = bounded_small c.args.b.now c.requires.b_bound _ })

pub loop-i-preserved : goal.loop-i-preserved
loop-i-preserved c =
    let l = c.loop-i in
    let x = at_ℤ c.args.a.now (c.args.at + l.i) in
    let y = at_ℤ c.args.b.now c.args.to in
    let g = read_back (at_ℤ l.run l.i) x y c.raised.result (omega arith) (omega arith) (omega arith) c.raised.type_inv c.raised.ensures in
    passed_more (omega arith) l.invariant g
