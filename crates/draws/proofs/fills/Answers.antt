-- `draws::fills` meets its contract: the ranks of one size stand together. Assumes nothing.
use mathlib.Core.Path.{◌≡◌, ap, ◌∙◌}
use Prim.Native.Nat.{suc, ◌-◌, ◌<◌}
use native.Mathlib.Numerals.{add-one}
use native.Mathlib.Omega.{arith}
use borrow.Author.Tests.{leb-true, ltb-true}
use Rattle.std.proofs.lemmas.Bool.Decides.{nat_tests}
use Rattle.lattice.specs.Tally.{start}
use Rattle.draws.specs.Leave.{size_fills, fills_size}
use Rattle.draws.proofs.fills.Goals as goal

pub returns-else-start_of-at : goal.returns-else-start_of-at
returns-else-start_of-at c =
    let a = c.args.sizes in
    (λ e. absurd (omega (arith, leb-true c.start_of.result c.args.s_ridx e)), λ f. absurd (omega (arith, (fills_size a.n a.r c.args.s_ridx c.args.draw f).1.from, c.start_of.ensures)))

pub returns-then-start_of-at : goal.returns-then-start_of-at
returns-then-start_of-at c =
    let a = c.args.sizes in
    let next : c.start_of-then-start_of-at.result ≡ start a.n (suc (a.r - c.args.draw)) = c.start_of-then-start_of-at.ensures ∙ ap (start a.n) (add-one (a.r - c.args.draw)) in (
      λ e. size_fills a.n a.r c.args.s_ridx c.args.draw (omega arith) (record { from = omega (arith, c.start_of.ensures); to = omega (arith, ltb-true c.args.s_ridx c.start_of-then-start_of-at.result e, next) }),
      λ f. let below : c.args.s_ridx < c.start_of-then-start_of-at.result = omega (arith, (fills_size a.n a.r c.args.s_ridx c.args.draw f).1.to, next) in grind (arith, nat_tests),
    )
