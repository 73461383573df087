-- `search::naive::write_kept` meets its contract. The loop's invariant: the letters from i on are written, and the place of those before is left.
-- Assumes nothing.
use mathlib.Core.Path.{refl, sym, ap, ◌∙◌}
use Prim.Native.Nat.{ℕ, ◌-◌, ◌/◌, ◌%◌}
use native.Mathlib.Numerals.{add-one}
use native.Mathlib.Omega.{arith}
use Rattle.search.specs.NaiveKept.{kept_start, kept_more, kept_end}
use Rattle.search.proofs.naive.write_kept.Goals as goal

pub loop-i-init : goal.loop-i-init
loop-i-init c = (omega arith, refl, kept_start _ _ _ c.requires)

pub loop-i-preserved : goal.loop-i-preserved
loop-i-preserved c =
    let l = c.loop-i in
    let k = c.from-count.result in
    let more = kept_more l.invariant.2 (omega arith) l.invariant.0 c.from-count.ensures (ap (λ (m : ℕ). k - l.over % m) (add-one k)) (ap (λ (m : ℕ). l.over / m) (add-one k)) in
    (omega arith, more.size ∙ sym c.requires, more)

pub returns : goal.returns
returns c = kept_end (omega arith) c.loop-i.invariant.2
