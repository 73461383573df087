use Rattle.std.proofs.Common.{ℕ, ◌≤◌, ◌+◌, ◌-◌, refl, zero-add, arith}
use Rattle.std.proofs.lemmas.Result.{err_from_is_err_and}
use Rattle.binomials.specs.Binomial.{table_monotone}
use Rattle.lattice.specs.Served.{facts, length_small}
use Rattle.lattice.proofs.Sparse.{Ended, taken_none, taken_wrong, taken_small, taken_many, taken_more, taken_all, ended_small, not_served, not_even, not_ascending, too_many, not_fitting, ranked}
use Rattle.lattice.proofs.Lattice.sparse_of_any.Goals.{After-loop-i, After-start_of}
use Rattle.lattice.proofs.Lattice.sparse_of_any.Goals as goal

pub returns-in_err-sizes : goal.returns-in_err-sizes
returns-in_err-sizes c =
    let p = err_from_is_err_and c.from_residual.result c.from_residual.ensures.1 in
    rw (p.1, p.2, c.in_err-sizes.ensures.0) ((not_served _ _ _ _ _ c.in_err-sizes.ensures.1))

pub returns-then-letters-counts : goal.returns-then-letters-counts
returns-then-letters-counts c =
    let s = c.in_ok-sizes.sizes in
    rw (← c.in_ok-sizes.ensures.0, ← c.in_ok-sizes.ensures.1) ((not_even _ _ _ _ _ s.is_served c.if-letters-counts.true))

pub loop-i-init : goal.loop-i-init
loop-i-init c = (omega arith, taken_none _ _ _ _ _ c.if-letters-counts.false)

pub returns-then-high-letter : goal.returns-then-high-letter
returns-then-high-letter c =
    let s = c.in_ok-sizes.sizes in
    rw (← c.in_ok-sizes.ensures.0, ← c.in_ok-sizes.ensures.1)
    ((not_ascending _ _ _ _ _ s.is_served c.if-letters-counts.false (taken_wrong c.loop-i.invariant.1 c.loop-i-test.true (omega (arith, c.if-high-letter.true, c.from-letter.ensures)))))

pub returns-then-sizes-tiles : goal.returns-then-sizes-tiles
returns-then-sizes-tiles c =
    let s = c.in_ok-sizes.sizes in
    let many = taken_many c.loop-i.invariant.1 c.loop-i-test.true c.if-letters-counts.false (omega (arith, c.if-sizes-tiles.true, c.from-count.ensures)) in
    rw (← c.in_ok-sizes.ensures.0, ← c.in_ok-sizes.ensures.1)
    ((rw (c.too_many.ensures, c.ascend.ensures) (too_many _ _ _ _ _ s.is_served c.if-letters-counts.false many)))

pub overflow_add-tiles : goal.overflow_add-tiles
overflow_add-tiles c = let f = facts _ _ c.in_ok-sizes.sizes.is_served in omega (arith, c.loop-i.invariant.0, c.type_inv.counts (c.loop-i.i - 1), c.from-count.ensures)

pub passed-before-requires : goal.passed-before-requires
passed-before-requires c = let f = facts _ _ c.in_ok-sizes.sizes.is_served in record { letters = omega arith; tiles = omega arith }

pub overflow_add-before : goal.overflow_add-before
overflow_add-before c =
    let s = c.in_ok-sizes.sizes in
    let f = facts s.n s.r s.is_served in
    let m : ℕ = s.n - 1 - c.from-letter.result in
    let few = table_monotone {p = c.from-count.result + c.loop-i.tiles} {q = s.r} {j = m} {k = s.n} (omega arith) (omega arith) in
    omega (arith, c.passed-before.ensures, few, length_small s.n s.r f, taken_small f c.loop-i.invariant.1 c.if-letters-counts.false c.loop-i.invariant.0)

pub loop-i-preserved : goal.loop-i-preserved
loop-i-preserved c = (
  omega arith,
  rw c.from-letter.ensures
      (taken_more c.loop-i.invariant.1 c.loop-i-test.true c.if-letters-counts.false
      (omega (arith, c.if-high-letter.false, c.from-letter.ensures))
      (omega (arith, c.type_inv.counts (c.loop-i.i - 1)))
      (omega (arith, c.from-count.ensures))
      (λ q. rw (c.passed-before.ensures, c.from-count.ensures, c.from-letter.ensures) refl)),
)

-- at the end every item is counted
ended : (c : goal.After-loop-i) → Ended c.in_ok-sizes.sizes.n c.in_ok-sizes.sizes.r 0 c.loop-i.tiles c.loop-i.before c.args.letters.now c.args.counts.now
ended c = taken_all c.loop-i.invariant.1 c.if-letters-counts.false (omega arith)

pub returns-then-tiles-s : goal.returns-then-tiles-s
returns-then-tiles-s c =
    let s = c.in_ok-sizes.sizes in
    rw (← c.in_ok-sizes.ensures.0, ← c.in_ok-sizes.ensures.1)
    ((not_fitting _ _ _ _ _ s.is_served c.if-letters-counts.false (ended (goal.at.returns-then-tiles-s c).After-loop-i) (λ e f. c.if-tiles-s.true e)))

pub start_of-requires : goal.start_of-requires
start_of-requires c =
    let f = facts _ _ c.in_ok-sizes.sizes.is_served in
    record { letters = f.letters; tiles = omega (arith, c.loop-i.invariant.0) }

-- the rank is small
small : (c : goal.After-start_of) → c.start_of.result + c.loop-i.before ≤ 4294967294
small c =
    let s = c.in_ok-sizes.sizes in
    let e = ended (goal.at.After-start_of c).After-loop-i in
    omega (arith, c.start_of.ensures, e.place c.loop-i.invariant.0, ended_small e (facts s.n s.r s.is_served) c.loop-i.invariant.0)

pub overflow_add-result : goal.overflow_add-result
overflow_add-result c = omega (arith, small c)

pub overflow_cast-result : goal.overflow_cast-result
overflow_cast-result c = omega (arith, small (goal.at.overflow_cast-result c).After-start_of)

pub returns : goal.returns
returns c =
    let s = c.in_ok-sizes.sizes in
    let e = ended (goal.at.returns c).After-loop-i in
    rw (← c.in_ok-sizes.ensures.0, ← c.in_ok-sizes.ensures.1)
    ((rw (c.start_of.ensures, e.place c.loop-i.invariant.0, zero-add) (ranked _ _ _ _ _ s.is_served c.if-letters-counts.false e c.if-tiles-s.false (omega (arith, c.loop-i.invariant.0, c.if-tiles-s.false)))))
