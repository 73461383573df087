-- `blanks::walk::one_left` meets its contract. The loop's invariant: what the walk is given of the letters that are left, and that their plays are all that the sheet
-- lacks. The measure is the number of letters left. Assumes nothing.
use mathlib.Core.Path.{◌≡◌, refl, sym, ◌∙◌}
use mathlib.Core.List.{List}
use Prim.Native.Nat.{ℕ, suc, ◌-◌, ◌≤◌}
use native.Mathlib.Omega.{arith}
use lib.IntN.{ℤ}
use lib.ListN.{length, get_or, take}
use mir.Syntax.{w32}
use mir.Val.{to_z, of_z}
use mir.ValLaws.{to_z-of_z}
use Rattle.runs.specs.Runs.{Absent, SplitsAt, present, word_none}
use Rattle.blanks.specs.Raise.{Raised}
use Rattle.blanks.specs.Ready.{Ready, Finds, finds_skip, ready_skip, run_fits, end_blanks, end_below, end_done, room, more_below, real_ready, real_turn, one_none, one_forced, one_free}
use Rattle.blanks.proofs.walk.Placed.one_left.Goals.{In_default, In-Some, After-saturating_sub-forced}
use Rattle.blanks.proofs.walk.Placed.one_left.Goals as goal
use Rattle.blanks.proofs.walk.Placed.one_left.Invariants.{Going}

-- the last letter that is there
module _ (c : goal.In-Some) where
  abbrev tiles : ℕ
  tiles = c.loop-last.tiles

  abbrev l : ℕ
  l = c.in-Some.last.stop

  abbrev here : Going (length c.args.sheet.now) c.args.sheet.now c.args.self.now.letters.now c.args.self.now.drops.now c.args.self.now.unseen.now c.args.self.now.tally.now c.args.place.letters c.args.place.tiles c.args.place.blanks c.args.place.real c.args.place.rank (to_z w32 (of_z w32 c.args.v)) c.loop-last.sheet c.loop-last.runs.0.now c.loop-last.runs.1.0 c.loop-last.runs.1.1.0 tiles c.loop-last.real c.loop-last.rank
  here = c.loop-last.invariant

  split : SplitsAt c.args.self.now.tally.now c.loop-last.runs.1.0 l c.in-Some.last.count c.in-Some.before.tally.now c.in-Some.before.stop
  split = rw here.same at c.in-Some.ensures

  one_more : suc (l - 1) ≡ l
  one_more = let f = split.some in omega arith

  ready : Ready (length c.args.sheet.now) c.args.self.now.letters.now c.args.self.now.drops.now c.args.self.now.unseen.now c.args.self.now.tally.now l tiles c.args.place.blanks c.loop-last.real c.loop-last.rank (to_z w32 (of_z w32 c.args.v))
  ready = ready_skip here.ready split.inside split.absent

  -- whatever raises the sheet for the letters up to it
  done : (s : List ℤ) → Raised c.loop-last.sheet (Finds c.args.self.now.letters.now c.args.self.now.drops.now c.args.self.now.unseen.now l tiles 1 c.args.place.blanks c.loop-last.real c.loop-last.rank (to_z w32 (of_z w32 c.args.v))) s
      → Raised c.args.sheet.now (Finds c.args.self.now.letters.now c.args.self.now.drops.now c.args.self.now.unseen.now c.args.place.letters c.args.place.tiles 1 c.args.place.blanks c.args.place.real c.args.place.rank (to_z w32 (of_z w32 c.args.v))) s
  done s r = here.rest s (finds_skip here.ready split.inside split.absent 1 r)

  -- its tiles
  abbrev count : ℕ
  count = c.in-Some.last.count

  begins : tiles - count ≡ tiles - get_or c.args.self.now.tally.now (l - 1) 0
  begins = let e = split.counted in omega arith

  inside : count ≤ tiles
  inside = let e = split.counted in omega (arith, run_fits ready one_more begins)

  own : count ≡ tiles - (tiles - count)
  own = let h = inside in omega arith

  own_fit : count ≤ tiles - (tiles - count)
  own_fit = let h = inside in omega arith

-- the blanks that it forces
forces : (c : goal.After-saturating_sub-forced) → c.saturating_sub-forced.result ≡ tiles (goal.at.After-saturating_sub-forced c).In-Some - (tiles (goal.at.After-saturating_sub-forced c).In-Some - count (goal.at.After-saturating_sub-forced c).In-Some) - get_or c.args.self.now.unseen.now (l (goal.at.After-saturating_sub-forced c).In-Some) 0
forces c =
    let o = own (goal.at.After-saturating_sub-forced c).In-Some in
    let e = c.from.ensures in
    let f = c.saturating_sub-forced.ensures in
    omega arith

pub invariant_of-runs : goal.invariant_of-runs
invariant_of-runs c =
    let g = c.loop-last.invariant in
    let w = g.ready.width in
    let n = g.ready.board.letters in
    record { few = rw g.same (omega arith); inside = rw g.same g.ready.top; letters = rw g.same g.letters }

pub bounds-self-last : goal.bounds-self-last
bounds-self-last c =
    let g = c.loop-last.invariant in
    let w = g.ready.width in
    let t = g.ready.top in
    omega (arith, (split (goal.at.bounds-self-last c).In-Some).inside)

pub returns-then-forced-gt1 : goal.returns-then-forced-gt1
returns-then-forced-gt1 c =
    let f = forces (goal.at.returns-then-forced-gt1 c).After-saturating_sub-forced in
    rw (to_z-of_z w32 c.args.v c.ranges.v) at (done (goal.at.returns-then-forced-gt1 c).In-Some _ (one_none (ready (goal.at.returns-then-forced-gt1 c).In-Some) (one_more (goal.at.returns-then-forced-gt1 c).In-Some) (begins (goal.at.returns-then-forced-gt1 c).In-Some) _ (rw (← f) c.if-forced-gt1.true)))

pub one_here-requires : goal.one_here-requires
one_here-requires c =
    let f = forces (goal.at.one_here-requires c).After-saturating_sub-forced in
    let o = own (goal.at.one_here-requires c).In-Some in
    let h = c.if-forced-gt1.false in
    record {
      ready = rw (here (goal.at.one_here-requires c).In-Some).size (ready (goal.at.one_here-requires c).In-Some);
      letter = one_more (goal.at.one_here-requires c).In-Some;
      count = (split (goal.at.one_here-requires c).In-Some).counted;
      some = (split (goal.at.one_here-requires c).In-Some).here;
      fits = omega arith;
      blanks = c.requires.blanks;
    }

pub returns-then-forced-eq1 : goal.returns-then-forced-eq1
returns-then-forced-eq1 c =
    let f = forces (goal.at.returns-then-forced-eq1 c).After-saturating_sub-forced in
    rw (to_z-of_z w32 c.args.v c.ranges.v) at (done (goal.at.returns-then-forced-eq1 c).In-Some _ (one_forced (ready (goal.at.returns-then-forced-eq1 c).In-Some) (one_more (goal.at.returns-then-forced-eq1 c).In-Some) (begins (goal.at.returns-then-forced-eq1 c).In-Some) (sym f ∙ c.if-forced-eq1.true) c.one_here.ensures))

pub past-rank-requires : goal.past-rank-requires
past-rank-requires c =
    let r = ready (goal.at.past-rank-requires c).In-Some in
    let w = r.width in
    let n = r.board.letters in
    record { letters = omega arith; tiles = room r (one_more (goal.at.past-rank-requires c).In-Some) (begins (goal.at.past-rank-requires c).In-Some) _ (own_fit (goal.at.past-rank-requires c).In-Some); fits = omega (arith, more_below r (one_more (goal.at.past-rank-requires c).In-Some) (begins (goal.at.past-rank-requires c).In-Some) _ (own_fit (goal.at.past-rank-requires c).In-Some), c.well_formed) }

pub overflow_sub-tiles : goal.overflow_sub-tiles
overflow_sub-tiles c = inside (goal.at.overflow_sub-tiles c).In-Some

pub loop-last-preserved : goal.loop-last-preserved
loop-last-preserved c =
    let d = (goal.at.loop-last-preserved c).In-Some in
    let s = split d in
    let h : count d ≤ get_or c.args.self.now.unseen.now (l d) 0 = omega (arith, forces (goal.at.loop-last-preserved c).After-saturating_sub-forced, own d, c.if-forced-gt1.false, c.if-forced-eq1.false) in
    record {
      ready = rw s.before (real_ready (ready d) (one_more d) (begins d) (own d) h c.past-rank.ensures);
      same = s.same;
      letters = rw s.same at c.in-Some.before.letters;
      size = c.one_here.ensures.size ∙ (here d).size;
      rest = λ t r. done d t (one_free (ready d) (one_more d) (begins d) c.one_here.ensures (real_turn (ready d) (one_more d) (begins d) (own d) h c.past-rank.ensures 1 (rw s.before at r)));
    }

-- no letter is left
module _ (c : goal.In_default) where
  none : Absent c.args.self.now.tally.now 0 c.loop-last.runs.1.0
  unfolding lib.Count.ones
  none = let g = c.loop-last.invariant in let e : present (take c.loop-last.runs.1.0 c.args.self.now.tally.now) ≡ 0 = rw g.same at c.in_default.ensures in word_none g.ready.top (sym e) refl

  no_more : c.args.place.blanks ≤ c.args.self.now.most
  no_more = omega (arith, c.requires.blanks)

pub raise_at-requires : goal.raise_at-requires
raise_at-requires c =
    let g = c.loop-last.invariant in
    let empty = none (goal.at.raise_at-requires c).In_default in
    let few = no_more (goal.at.raise_at-requires c).In_default in
    record { few = omega (arith, end_blanks g.ready empty c.args.self.now.heads_right few, g.ready.board.few); inside = rw g.size (end_below g.ready empty c.args.self.now.heads_right few) }

pub returns : goal.returns
returns c =
    let g = c.loop-last.invariant in
    let a = c.args in
    let e = to_z-of_z w32 a.v c.ranges.v in
    rw (c.raise_at.ensures, e) (rw e at (g.rest _ (end_done g.ready (none (goal.at.returns c).In_default) c.args.self.now.heads_right (no_more (goal.at.returns c).In_default) 1 c.loop-last.sheet)))
