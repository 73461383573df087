-- `table_sums::passes::gain_letter` meets its contract. The loop's invariant: the multisets of at least s tiles are done. Assumes nothing.
use mathlib.Core.Path.{◌≡◌, ◌∙◌, subst}
use Prim.Native.Nat.{ℕ, suc, ◌-◌, ◌<◌}
use native.Mathlib.Omega.{arith}
use Rattle.lattice.specs.Served.{facts}
use Rattle.table_sums.specs.Passes.{Down, size_gaining, size_done}
use Rattle.table_sums.proofs.passes.gain_letter.Goals as goal

pub gain_from-requires : goal.gain_from-requires
gain_from-requires c =
    let l = c.loop-s in
    let less : l.s - 1 < c.args.sizes.r = omega arith in
    size_gaining c.requires.letter less c.size_start-w.ensures c.size_start-v.ensures (facts c.args.sizes.n c.args.sizes.r c.args.sizes.is_served) (l.invariant.long ∙ c.requires.size)

pub loop-s-preserved : goal.loop-s-preserved
loop-s-preserved c =
    let l = c.loop-s in
    let less : l.s - 1 < c.args.sizes.r = omega arith in
    let e : l.s ≡ suc (l.s - 1) = omega arith in
    size_done c.requires.letter less c.size_start-w.ensures c.size_start-v.ensures (subst (λ (k : ℕ). Down c.args.sizes.n c.args.sizes.r c.args.t k c.args.xs.now l.xs) e l.invariant) c.gain_from.ensures
