-- `sums::spread::add_run` meets its contract. The loop's invariant: the numbers so far are added. Assumes nothing.
use Rattle.std.proofs.Common.{◌≡◌, ℕ, ◌+◌, ◌-◌, ◌<◌, List, Float, length, get_or, take, drop, refl, sym, ap, ◌∙◌, arith}
use Rattle.std.proofs.lemmas.List.{get_or-take}
use Rattle.std.proofs.lemmas.Grind.{get_or_after_one}
use Rattle.std.specs.Float.{nan}
use Rattle.std.proofs.Math.Nat.{add_comm}
use Rattle.sums.specs.Spread.{length_add_each}
use Rattle.sums.proofs.Spreading.{run_none, run_more, run_done}
use Rattle.sums.proofs.spread.add_run.Goals as goal

pub loop-j-init : goal.loop-j-init
loop-j-init c = (omega arith, refl, run_none _ _ _)

-- the numbers are read from the second on
from_second : (m j : ℕ) (vs : List Float) → j < m → get_or (take m (drop 1 vs)) j nan ≡ get_or vs (j + 1) nan
from_second m j vs h = get_or-take m (drop 1 vs) j nan h ∙ get_or_after_one vs j nan ∙ ap (λ (i : ℕ). get_or vs i nan) (add_comm 1 j)

pub loop-j-preserved : goal.loop-j-preserved
loop-j-preserved c =
    let l = c.loop-j.invariant in
    let below : c.loop-j.j < c.min-stop.result = omega (arith, c.loop-j-test.true) in
    let k : c.loop-j.j + 1 < length c.args.numbers.now = omega (arith, c.min-stop.ensures, c.saturating_sub.ensures, c.requires.numbers) in
    let n = from_second (c.min-stop.result + 1 - 1) c.loop-j.j c.args.numbers.now (omega arith) in
    let e = rw (sym n) at (run_more _ _ _ _ k l.2) in
    (omega arith, ap length e ∙ length_add_each _ _ _, e)

pub returns : goal.returns
returns c =
    let l = c.loop-j.invariant in
    run_done _ _ _ (omega (arith, c.min-stop.ensures, c.saturating_sub.ensures)) (λ h. omega (arith, c.min-stop.ensures, c.saturating_sub.ensures)) l.2
