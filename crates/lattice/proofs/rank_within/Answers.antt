-- A letter more, from the last: `behind_more`. Assumes nothing.
use Rattle.std.proofs.Common.{◌≡◌, ℕ, ◌+◌, ◌-◌, ◌%◌, ◌<◌, ◌≤◌, List, length, get_or, drop, sym, refl, ap, ◌∙◌, arith}
use lib.Seq.{drop-length}
use Rattle.binomials.specs.Binomial.{binomial}
use Rattle.lattice.specs.Served.{Served, facts}
use Rattle.lattice.specs.Tally.{total, within, start, total_nil}
use Rattle.lattice.proofs.Ranks.{fewer_is, behind_none, behind_more, advance, first_tiles, first_place, whole_ranked, whole_small, more_refused}
use Rattle.lattice.proofs.rank_within.Goals.{After-loop-i, After-choose, Start}
use Rattle.lattice.proofs.rank_within.Goals as goal

sizes : (c : goal.Start) → Served (length c.args.tally.now) c.args.r
sizes c = facts (length c.args.tally.now) c.args.r c.requires

pub loop-i-init : goal.loop-i-init
loop-i-init c =
    let t : List ℕ = c.args.tally.now in
    ((sizes (goal.at.loop-i-init c).Start).some_letter, omega arith, sym (ap total (drop-length t) ∙ total_nil), omega arith, omega arith, λ h. behind_none t)

pub fewer-rest-requires : goal.fewer-rest-requires
fewer-rest-requires c = let s = sizes (goal.at.fewer-rest-requires c).Start in record { letters = omega (arith, s.letters); tiles = omega arith }

pub overflow_add-rest : goal.overflow_add-rest
overflow_add-rest c = let s = sizes (goal.at.overflow_add-rest c).Start in omega (arith, s.letters, c.fewer-rest.ensures.small, c.loop-i.invariant.4)

pub loop-i-preserved : goal.loop-i-preserved
loop-i-preserved c =
    let l = c.loop-i in
    let t : List ℕ = c.args.tally.now in
    let count : ℕ = get_or t (l.i - 1) 0 in
    let a = advance t (l.i - 1) l.i (length t - l.i) l.tiles (within (drop l.i t)) (omega arith) (omega arith) l.invariant.2 refl in (
      omega arith,
      omega arith,
      omega (arith, a.tiles_now, c.from-tiles.ensures),
      omega (arith, c.type_inv.tally (l.i - 1), c.from-tiles.ensures),
      omega (arith, c.fewer-rest.ensures.small),
      λ h.
          let b = behind_more t l.i l.tiles l.rest l.invariant.0 l.invariant.1 l.invariant.2 (l.invariant.5 (omega arith)) in
          let few : (l.tiles + c.from-tiles.result) % 16 ≡ l.tiles + count = omega (arith, c.from-tiles.ensures) in
          let read = fewer_is (length t - (l.i - 1)) ((l.tiles + c.from-tiles.result) % 16) c.fewer-rest.ensures.none c.fewer-rest.ensures.some in
          rw (c.from-tiles.ensures, read, few) b,
    )

pub overflow_add-tiles : goal.overflow_add-tiles
overflow_add-tiles c =
    let s = sizes (goal.at.overflow_add-tiles c).Start in
    omega (arith, s.letters, c.type_inv.tally (c.loop-i.i - 1), c.from-tiles.ensures, c.loop-i.invariant.3)

-- at the end the first letter alone is left
module _ (c : goal.After-loop-i) where
  abbrev t : List ℕ
  t = c.args.tally.now

  one : c.loop-i.i ≡ 1
  one = omega (arith, c.loop-i.invariant.0)

  counted : c.loop-i.tiles ≡ total (drop 1 t)
  counted = rw one at c.loop-i.invariant.2

  all_tiles : c.loop-i.tiles + get_or t 0 0 ≡ total t
  all_tiles = first_tiles t c.loop-i.tiles (sizes (goal.at.After-loop-i c).Start).some_letter counted

  place : c.loop-i.tiles < 16 → c.loop-i.rest + (start (length t) (total t) + within t) ≡ binomial (total t + length t) (length t)
  place h = first_place t c.loop-i.tiles (sizes (goal.at.After-loop-i c).Start).some_letter counted c.loop-i.rest (rw one at (c.loop-i.invariant.5 h))

pub overflow_add-tiles-2 : goal.overflow_add-tiles-2
overflow_add-tiles-2 c =
    let s = sizes (goal.at.overflow_add-tiles-2 c).Start in
    omega (arith, s.letters, c.type_inv.tally 0, c.from-tiles-2.ensures, c.loop-i.invariant.3)

pub returns-then-r-tiles : goal.returns-then-r-tiles
returns-then-r-tiles c = more_refused c.args.tally.now c.args.r (omega (arith, c.from-tiles-2.ensures, all_tiles (goal.at.returns-then-r-tiles c).After-loop-i))

pub choose-requires : goal.choose-requires
choose-requires c = let s = sizes (goal.at.choose-requires c).Start in record { letters = s.letters; tiles = omega (arith, s.tiles) }

-- what the constant is, and so the rank
ranked : (c : goal.After-choose) → c.loop-i.rest + (start (length c.args.tally.now) (total c.args.tally.now) + within c.args.tally.now) ≡ c.choose.result
ranked c =
    let s = sizes (goal.at.After-choose c).Start in
    place (goal.at.After-choose c).After-loop-i (omega (arith, s.tiles)) ∙ sym (rw (c.from-tiles-2.ensures, all_tiles (goal.at.After-choose c).After-loop-i) at c.choose.ensures)

pub overflow_sub-result : goal.overflow_sub-result
overflow_sub-result c = omega (arith, ranked c)

small : (c : goal.After-choose) → c.choose.result - c.loop-i.rest ≤ 4294967294
small c =
    let t : List ℕ = c.args.tally.now in
    omega (arith, ranked c, whole_small t c.args.r {tiles = total t} {before = within t} (sizes (goal.at.After-choose c).Start) refl refl (omega (arith, c.from-tiles-2.ensures, all_tiles (goal.at.After-choose c).After-loop-i)))

pub overflow_cast-result : goal.overflow_cast-result
overflow_cast-result c = omega (arith, small (goal.at.overflow_cast-result c).After-choose)

pub returns : goal.returns
returns c =
    let t : List ℕ = c.args.tally.now in
    let whole = whole_ranked t c.args.r {tiles = total t} {before = within t} refl refl (omega (arith, c.from-tiles-2.ensures, all_tiles (goal.at.returns c).After-loop-i)) in
    let rank : c.choose.result - c.loop-i.rest ≡ start (length t) (total t) + within t = omega (arith, ranked (goal.at.returns c).After-choose) in
    rw rank whole
