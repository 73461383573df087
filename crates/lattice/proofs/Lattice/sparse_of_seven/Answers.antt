-- An item more: `taken_more`; the lattice's last letter first: `taken_last`. Assumes nothing.
use Rattle.std.proofs.Common.{◌≡◌, ℕ, ◌+◌, ◌-◌, ◌%◌, ◌≤◌, true, length, get_or, arith}
use Rattle.binomials.specs.Binomial.{binomial}
use Rattle.lattice.specs.Tally.{start, within}
use Rattle.lattice.specs.Tiles.{sparse}
use Rattle.lattice.specs.Answers.{served}
use Rattle.lattice.specs.Served.{Served, facts, seven_served, length_small}
use Rattle.lattice.proofs.Ranks.{grows, start_grows}
use Rattle.lattice.proofs.Sparse.{Ended, taken_none, taken_last, taken_wrong, taken_small, taken_more, taken_all, ended_small, not_even, not_ascending, not_fitting, ranked}
use Rattle.lattice.proofs.Lattice.sparse_of_seven.Goals.{Start, After-loop-i, Else-tiles-s, then-end-gt0+then-from-self, else-end-gt0}
use Rattle.lattice.proofs.Lattice.sparse_of_seven.Goals as goal

is_served : (c : goal.Start) → served c.args.self.n c.args.self.r ≡ true
is_served c = seven_served _ _ c.requires.letter c.requires.letters c.requires.tile c.requires.tiles

sizes : (c : goal.Start) → Served c.args.self.n c.args.self.r
sizes c = facts _ _ (is_served c)

pub returns-then-letters-counts : goal.returns-then-letters-counts
returns-then-letters-counts c = not_even _ _ _ _ _ (is_served (goal.at.returns-then-letters-counts c).Start) c.if-letters-counts.true

pub loop-i-init : goal.loop-i-init
loop-i-init c =
    let a = c.args in
    let n : ℕ = a.self.n in
    let base : ℕ = start n a.s in
    elim c.if-end-gt0.branch [
      | then-end-gt0+then-from-self w ↦
          let one : 1 + w.from-tiles.result - 1 ≡ get_or a.counts.now (length a.letters.now - 1) 0 = omega (arith, w.from-tiles.ensures) in
          rw (w.end-is, w.high-is, w.tiles-is, one, c.start_of-before.ensures) (
            omega arith,
            taken_last n a.self.r base a.letters.now a.counts.now c.if-letters-counts.false c.requires.letter w.if-end-gt0.true (omega (arith, w.from.ensures, w.if-from-self.true)) (omega (arith, c.type_inv.counts (length a.letters.now - 1))),
          )
      | else-end-gt0 w ↦
          let none : 1 - 1 ≡ 0 = omega arith in
          rw (w.end-is, w.high-is, w.tiles-is, none, c.start_of-before.ensures) (omega arith, taken_none n a.self.r base a.letters.now a.counts.now c.if-letters-counts.false)
    ]

pub returns-then-high-letter : goal.returns-then-high-letter
returns-then-high-letter c =
    not_ascending _ _ _ _ _ (is_served (goal.at.returns-then-high-letter c).Start) c.if-letters-counts.false (taken_wrong c.loop-i.invariant.1 c.loop-i-test.true (omega (arith, c.if-high-letter.true, c.from-letter.ensures)))

pub loop-i-preserved : goal.loop-i-preserved
loop-i-preserved c =
    let l = c.loop-i in
    let n : ℕ = c.args.self.n in
    let r : ℕ = c.args.self.r in
    let x : ℕ = get_or c.args.letters.now (l.i - 1) 0 in
    let count : ℕ = get_or c.args.counts.now (l.i - 1) 0 in
    let m : ℕ = n - 1 - x in
    let seven = c.requires.tiles in
    let f = sizes (goal.at.loop-i-preserved c).Start in (
      omega (arith, l.invariant.0),
      rw c.from-letter.ensures
          (taken_more l.invariant.1 c.loop-i-test.true c.if-letters-counts.false (omega (arith, c.if-high-letter.false, c.from-letter.ensures)) (omega (arith, c.type_inv.counts (l.i - 1))) (omega (arith, l.invariant.0, c.from-tiles-in-loop-i.ensures))
          (λ q.
          let few : l.tiles % 16 ≡ l.tiles = omega arith in
          let fits : (l.tiles + c.from-tiles-in-loop-i.result) % 16 ≡ l.tiles + count = omega (arith, c.from-tiles-in-loop-i.ensures) in
          let all : l.tiles + count - 1 ≡ count + (l.tiles - 1) = omega (arith, l.invariant.0) in
          let without : c.fewer-before.result ≡ binomial (l.tiles - 1 + m) m = rw (few, c.from-letter.ensures) at (c.fewer-before.ensures.some (omega (arith, few, l.invariant.0))) in
          let with : c.fewer-before-in-loop-i.result ≡ binomial (count + (l.tiles - 1) + m) m = rw (fits, all, c.from-letter.ensures) at (c.fewer-before-in-loop-i.ensures.some (omega (arith, fits, l.invariant.0))) in
          let g = grows m {a = count + (l.tiles - 1)} {b = l.tiles - 1} (omega arith) in
          let before = taken_small f l.invariant.1 c.if-letters-counts.false (omega arith) in
          let base = start_grows n c.args.s r (omega (arith, c.requires.asked)) in
          omega (arith, without, with, g, before, base, length_small n r f, c.fewer-before-in-loop-i.ensures.small))),
    )

ended : (c : goal.After-loop-i) → Ended c.args.self.n c.args.self.r (start c.args.self.n c.args.s) (c.loop-i.tiles - 1) c.loop-i.before c.args.letters.now c.args.counts.now
ended c = taken_all c.loop-i.invariant.1 c.if-letters-counts.false (omega arith)

pub returns-then-tiles-s : goal.returns-then-tiles-s
returns-then-tiles-s c =
    not_fitting _ _ _ _ _ (is_served (goal.at.returns-then-tiles-s c).Start) c.if-letters-counts.false (ended (goal.at.returns-then-tiles-s c).After-loop-i) (λ e f. c.if-tiles-s.true (omega (arith, e, c.loop-i.invariant.0)))

-- the counts are those of s tiles
all_tiles : (c : goal.Else-tiles-s) → c.loop-i.tiles - 1 ≡ c.args.s
all_tiles c = omega (arith, c.if-tiles-s.false)

small : (c : goal.Else-tiles-s) → start c.args.self.n c.args.s + within (sparse c.args.self.n c.args.letters.now c.args.counts.now) ≤ 4294967294
small c = rw (all_tiles c) at (ended_small (ended (goal.at.Else-tiles-s c).After-loop-i) (sizes (goal.at.Else-tiles-s c).Start) (omega (arith, all_tiles c, c.requires.asked)))

before_is : (c : goal.Else-tiles-s) → c.loop-i.before ≡ start c.args.self.n c.args.s + within (sparse c.args.self.n c.args.letters.now c.args.counts.now)
before_is c = (ended (goal.at.Else-tiles-s c).After-loop-i).place (omega (arith, all_tiles c, c.requires.asked))

pub overflow_cast-result : goal.overflow_cast-result
overflow_cast-result c = omega (arith, before_is (goal.at.overflow_cast-result c).Else-tiles-s, small (goal.at.overflow_cast-result c).Else-tiles-s)

pub returns : goal.returns
returns c =
    let d = (goal.at.returns c).Else-tiles-s in
    rw (before_is d) (rw (all_tiles d) at (ranked _ _ _ _ _ (is_served (goal.at.returns c).Start) c.if-letters-counts.false (ended (goal.at.returns c).After-loop-i) (all_tiles d) c.requires.asked))
