-- `search::extended::raise_both` meets its contract. Assumes nothing.
use Rattle.std.proofs.Common.{◌≡◌, ◌+◌, ◌-◌, ◌≤◌, ◌<◌, ◌^◌, ℕ, ℤ, List, suc, length, take, get_or, sym, ap, ◌∙◌, subst, arith, rules}
use mathlib.Core.Logic.{inl, inr}
use Rattle.lattice.specs.Tally.{total}
use Rattle.lattice.specs.Step.{step}
use Rattle.lattice.proofs.Counts.{get_or_le_total}
use Rattle.search.specs.Counts.{at_most_mono, step_counts}
use Rattle.search.specs.Split.{Worths}
use Rattle.search.specs.Raised.{Raised, RunReady, raised_join}
use Rattle.search.specs.Extended.{Extending, Side, exchanged, side_ready, side_turn}
use Rattle.search.proofs.extended.raise_both.Goals.{Start, After-with-other}
use Rattle.search.proofs.extended.raise_both.Goals as goal

-- the letter after the runs
same : (k : ℕ) → k ≡ k + 1 - 1
same k = omega arith

-- its tiles are few
few : (c : goal.Start) → get_or c.args.runs.tally.now c.args.runs.stop 0 ≤ total c.args.runs.tally.now
few c = get_or_le_total c.args.runs.tally.now c.args.runs.stop

inside : (c : goal.Start) → c.args.x ≤ get_or c.args.runs.tally.now (c.args.runs.stop + 1 - 1) 0
inside c = subst (λ (i : ℕ). c.args.x ≤ get_or c.args.runs.tally.now i 0) (same c.args.runs.stop) c.requires.inside

-- what the letter adds to a rank fits a word
fits : (c : goal.Start) (s j : ℕ) → s ≤ suc (total c.args.runs.tally.now) → step (length c.args.runs.tally.now - (c.args.runs.stop + 1)) s j < 2 ^ 64
fits c s j h =
    let m = length c.args.runs.tally.now - (c.args.runs.stop + 1) in
    let low : m ≤ length c.args.runs.tally.now = omega arith in
    omega (arith, step_counts m s j, at_most_mono low h, c.requires.extending.in_a, c.well_formed)

pub with-part-requires-clause-tiles : goal.with-part-requires-clause-tiles
with-part-requires-clause-tiles c = omega (arith, few (goal.at.with-part-requires-clause-tiles c).Start, c.requires.inside, c.requires.extending.tiles)

pub with-part-requires-clause-fits : goal.with-part-requires-clause-fits
with-part-requires-clause-fits c =
    let s = (goal.at.with-part-requires-clause-fits c).Start in
    omega (arith, fits s (1 + c.args.x) c.args.x (omega (arith, few s, c.requires.inside)))

pub with-other-requires-clause-tiles : goal.with-other-requires-clause-tiles
with-other-requires-clause-tiles c = omega (arith, few (goal.at.with-other-requires-clause-tiles c).Start, c.from.ensures, c.requires.extending.tiles)

pub with-other-requires-clause-fits : goal.with-other-requires-clause-fits
with-other-requires-clause-fits c =
    let s = (goal.at.with-other-requires-clause-fits c).Start in
    omega (arith, fits s (0 + (c.from.result - c.args.x)) (c.from.result - c.args.x) (omega (arith, few s, c.from.ensures)))

-- the two parts
module _ (c : goal.After-with-other) where
  abbrev m : ℕ
  m = length c.args.runs.tally.now - (c.args.runs.stop + 1)

  part_tiles : c.with-part.result.tiles ≡ c.args.x + 1
  part_tiles = omega (arith, c.with-part.ensures.tiles)

  part_before : c.with-part.result.before ≡ step m (c.args.x + 1) c.args.x
  part_before =
      let e : 1 + c.args.x ≡ c.args.x + 1 = omega arith in
      omega (arith, c.with-part.ensures.before, ap (λ (s : ℕ). step m s c.args.x) e)

  left : c.with-other.result.tiles ≡ c.from.result - c.args.x
  left = omega (arith, c.with-other.ensures.tiles)

  other_tiles : c.with-other.result.tiles ≡ get_or c.args.runs.tally.now (c.args.runs.stop + 1 - 1) 0 - c.args.x
  other_tiles = left ∙ ap (λ (k : ℕ). k - c.args.x) (c.from.ensures ∙ ap (λ (i : ℕ). get_or c.args.runs.tally.now i 0) (same c.args.runs.stop))

  other_before : c.with-other.result.before ≡ step m c.with-other.result.tiles c.with-other.result.tiles
  other_before =
      omega (arith, c.with-other.ensures.before, ap (λ (s : ℕ). step m s (c.from.result - c.args.x)) c.with-other.ensures.tiles, ap (step m c.with-other.result.tiles) left)

  ready : {a b : List ℤ} {k size : ℕ} → Extending a b c.args.runs.tally.now (c.args.runs.stop + 1) size → k ≡ size
      → RunReady a b c.args.runs.tally.now c.args.runs.stop c.with-part.result.tiles c.with-part.result.before c.with-other.result.tiles c.with-other.result.before k
  ready {a} {b} {k} e long =
      rw part_tiles
      (subst (λ (i : ℕ). RunReady a b c.args.runs.tally.now i (c.args.x + 1) c.with-part.result.before c.with-other.result.tiles c.with-other.result.before k) (sym (same c.args.runs.stop))
      (side_ready e c.args.x (inside (goal.at.After-with-other c).Start) part_before other_tiles other_before long))

  turn : {a b : List ℤ} {size : ℕ} {entry exit : List ℤ} → Extending a b c.args.runs.tally.now (c.args.runs.stop + 1) size
      → Raised (λ j. Worths a b (length c.args.runs.tally.now) (take c.args.runs.stop c.args.runs.tally.now) (length c.args.runs.tally.now - c.args.runs.stop) c.with-part.result.tiles (c.with-part.result.before + j) c.with-other.result.tiles c.with-other.result.before) entry exit
      → Raised (λ j. Side a b (length c.args.runs.tally.now) (take (c.args.runs.stop + 1 - 1) c.args.runs.tally.now) m (get_or c.args.runs.tally.now (c.args.runs.stop + 1 - 1) 0) j c.args.x) entry exit
  turn {a} {b} {entry = entry} {exit} e r =
      side_turn e c.args.x part_before other_tiles other_before
      (subst (λ (i : ℕ). Raised (λ j. Worths a b (length c.args.runs.tally.now) (take i c.args.runs.tally.now) (length c.args.runs.tally.now - i) (c.args.x + 1) (c.with-part.result.before + j) c.with-other.result.tiles c.with-other.result.before) entry exit) (same c.args.runs.stop)
      (rw part_tiles at r))

pub raise_splits-requires : goal.raise_splits-requires
raise_splits-requires c = ready (goal.at.raise_splits-requires c).After-with-other c.requires.extending (search rules)

pub raise_splits-requires-2 : goal.raise_splits-requires-2
raise_splits-requires-2 c =
    ready (goal.at.raise_splits-requires-2 c).After-with-other (exchanged c.requires.extending) c.raise_splits.ensures.size

pub returns : goal.returns
returns c =
    let d = (goal.at.returns c).After-with-other in
    raised_join (λ j v h. h) (λ j v h. inl h) (λ j v h. inr h)
    (turn d c.requires.extending c.raise_splits.ensures) (turn d (exchanged c.requires.extending) c.raise_splits-2.ensures)
