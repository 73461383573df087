-- `maxima::all_local` meets its contract: the multisets before index i are as they must be. Assumes nothing.
use Prim.Native.Nat.{◌<◌}
use mathlib.Core.Path.{sym, ap, ◌∙◌}
use native.Mathlib.Omega.{arith}
use native.Mathlib.Nat.{le_refl}
use lib.ListN.{length}
use lib.Seq.{take-length}
use mir.Syntax.{w32}
use mir.Val.{to_z, of_z}
use Rattle.laws.specs.Greatest.{Greatest}
use Rattle.laws.specs.Integer.{at_ℤ, back}
use Rattle.lattice.specs.Served.{facts}
use Rattle.runs.specs.Runs.{present}
use Rattle.maxima.specs.Judge.{Smaller}
use Rattle.maxima.specs.Walk.{reached_end, reached_small, reached_no, reached_next}
use Rattle.maxima.proofs.Laws.{told}
use Rattle.maxima.proofs.all_local.Goals.{After-greatest_below}
use Rattle.maxima.proofs.all_local.Goals as goal

pub letters_of-word-requires : goal.letters_of-word-requires
letters_of-word-requires c = (facts _ _ c.requires.judging.sizes).letters

pub invariant_of-runs : goal.invariant_of-runs
invariant_of-runs c =
    let inv = c.loop-i.invariant in
    record { few = (facts _ _ inv.3.judging.sizes).letters; inside = le_refl _; letters = inv.2 ∙ ap present (sym (take-length c.loop-i.tally)) }

-- the greatest of what the entry should come from
module _ (c : goal.After-greatest_below) where
  inside : c.loop-i.i < length c.args.m.now
  inside = c.loop-i-test.true

  found : Greatest (at_ℤ c.args.d.now c.loop-i.i) (Smaller (length c.loop-i.tally) c.args.m.now c.loop-i.tally 0) c.greatest_below.result
  found = rw (back (at_ℤ c.args.d.now c.loop-i.i) (omega arith)) at c.greatest_below.ensures.greatest

pub returns-then-greatest_below-entry : goal.returns-then-greatest_below-entry
returns-then-greatest_below-entry c =
    let inv = c.loop-i.invariant in
    told (rw (sym inv.1) (reached_no inv.3 (inside (goal.at.returns-then-greatest_below-entry c).After-greatest_below) (found (goal.at.returns-then-greatest_below-entry c).After-greatest_below) (λ e. c.if-greatest_below-entry.true (ap (of_z w32) e))))

pub next_tally-word-requires : goal.next_tally-word-requires
next_tally-word-requires c =
    let inv = c.loop-i.invariant in
    let small = reached_small inv.3 (inside (goal.at.next_tally-word-requires c).After-greatest_below) in
    record { some = small.0; letters = small.1; tiles = small.2; word = inv.2 }

pub loop-i-preserved : goal.loop-i-preserved
loop-i-preserved c =
    let inv = c.loop-i.invariant in
    let e = c.next_tally-word.ensures in
    let here = (goal.at.loop-i-preserved c).After-greatest_below in
    let same = sym (back _ c.greatest_below.type_inv) ∙ ap (to_z w32) c.if-greatest_below-entry.false ∙ back (at_ℤ c.args.m.now c.loop-i.i) (omega arith) in
    (omega (arith, inside here), e.next.letters ∙ inv.1, e.word, reached_next inv.3 (inside here) (found here) same c.greatest_below.ensures.places e.next)

pub returns : goal.returns
returns c =
    let inv = c.loop-i.invariant in
    told (rw (sym inv.1) (reached_end inv.3 (omega (arith, c.loop-i-test.false))))
