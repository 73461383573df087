-- `search::extended::raise_extensions` meets its contract. The loop's invariant: the counts passed have raised the run. Assumes nothing.
use mathlib.Core.Path.{◌≡◌, sym, ◌∙◌, subst}
use Prim.Native.Nat.{ℕ, suc, ◌+◌, ◌-◌}
use native.Mathlib.Omega.{arith}
use lib.ListN.{length, get_or}
use Rattle.laws.specs.Greatest.{Below}
use Rattle.search.specs.Raised.{Raised, raised_more}
use Rattle.search.specs.Extended.{Extending, Counted, stop_some}
use Rattle.search.proofs.extended.raise_extensions.Goals.{In-loop-x, After-raise_both}
use Rattle.search.proofs.extended.raise_extensions.Goals as goal

-- the letter after the runs
one : (c : goal.In-loop-x) → c.first-runs.result.stop + 1 ≡ c.args.stop
one c = omega (arith, c.first-runs.ensures.stop, stop_some c.requires)

pub raise_both-requires-clause-extending : goal.raise_both-requires-clause-extending
raise_both-requires-clause-extending c =
    rw (c.first-runs.ensures.tally, one (goal.at.raise_both-requires-clause-extending c).In-loop-x) (subst (Extending _ _ _ _) (sym c.loop-x.invariant.1) c.requires)

-- after a turn: the run is raised by the turns up to it
turned : (c : goal.After-raise_both)
    → (length c.raise_both.new.run ≡ length c.args.run.now) × Raised (λ j. Below (Counted c.args.sheet.now c.args.leave.now c.args.tally.now c.args.stop j) (c.loop-x.x + 1)) c.args.run.now c.raise_both.new.run
turned c =
    let l = c.loop-x.invariant in
    let v = rw (c.first-runs.ensures.tally, one (goal.at.After-raise_both c).In-loop-x) at c.raise_both.ensures in
    (v.size ∙ l.1, raised_more l.2 v)

pub loop-x-preserved : goal.loop-x-preserved
loop-x-preserved c = let d = turned (goal.at.loop-x-preserved c).After-raise_both in (omega arith, d.0, d.1)

pub returns-2 : goal.returns-2
returns-2 c =
    let all : c.loop-x.x + 1 ≡ suc (get_or c.args.tally.now (c.args.stop - 1) 0) = omega arith in
    subst (λ (k : ℕ). Raised (λ j. Below (Counted c.args.sheet.now c.args.leave.now c.args.tally.now c.args.stop j) k) c.args.run.now c.raise_both.new.run) all (turned (goal.at.returns-2 c).After-raise_both).1
