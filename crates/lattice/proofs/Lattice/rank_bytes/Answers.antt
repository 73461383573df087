use Rattle.std.proofs.Common.{◌≡◌, ◌≤◌, length, replicate, true, false, sym, refl, ap, ◌∙◌, le-leb, arith}
use Rattle.std.proofs.lemmas.Result.{err_from_is_err_and}
use borrow.Author.Tests.{lt-leb}
use Rattle.std.specs.Prelude.{Ok}
use Rattle.lattice.specs.Tally.{total, rank_of}
use Rattle.lattice.specs.Tiles.{tally_of, letters_below}
use Rattle.lattice.specs.Answers.{served, rank_within, rank_bytes_answer}
use Rattle.lattice.specs.Served.{facts}
use Rattle.lattice.proofs.Counts.{take_zeros, length_zeros, letters_told, length_tally_of, total_tally_of}
use Rattle.lattice.proofs.Calls.{rank_bytes_gives}
use Rattle.lattice.proofs.Sparse.{by_letters}
use Rattle.lattice.proofs.Lattice.rank_bytes.Goals.{In_ok-count_tiles}
use Rattle.lattice.proofs.Lattice.rank_bytes.Goals as goal

pub returns-in_err-sizes : goal.returns-in_err-sizes
unfolding rank_bytes_answer
returns-in_err-sizes c =
    let p = err_from_is_err_and c.from_residual.result c.from_residual.ensures.1 in
    rw (p.1, p.2, c.in_err-sizes.ensures.0) (rank_bytes_gives (rw c.in_err-sizes.ensures.1))

pub returns-then-sizes-tiles : goal.returns-then-sizes-tiles
unfolding rank_bytes_answer
returns-then-sizes-tiles c =
    let s = c.in_ok-sizes.sizes in
    rw (← c.in_ok-sizes.ensures.0, ← c.in_ok-sizes.ensures.1)
    (rank_bytes_gives (rw (c.too_many.ensures, s.is_served, lt-leb _ _ c.if-sizes-tiles.true, letters_told s.n c.args.tiles.now c.are_letters.result c.are_letters.ensures) (by_letters _ _ refl)))

pub slice_bounds-tally-end : goal.slice_bounds-tally-end
slice_bounds-tally-end c = let f = facts _ _ c.in_ok-sizes.sizes.is_served in omega arith

-- the tally begins with no tiles
pub slice_bounds-tally-end-2 : goal.slice_bounds-tally-end-2
slice_bounds-tally-end-2 c = let f = facts _ _ c.in_ok-sizes.sizes.is_served in sym (length_zeros c.in_ok-sizes.sizes.n 64 f.letters)

pub count_tiles-requires : goal.count_tiles-requires
count_tiles-requires c =
    let s = c.in_ok-sizes.sizes in
    let f = facts _ _ s.is_served in
    let e = length_zeros s.n 64 f.letters in
    record {
      clear = take_zeros s.n 64 f.letters ∙ ap (λ k. replicate k 0) (sym e);
      few = omega (arith, c.if-sizes-tiles.false);
    }

pub returns-in_err-count_tiles : goal.returns-in_err-count_tiles
unfolding rank_bytes_answer
returns-in_err-count_tiles c =
    let s = c.in_ok-sizes.sizes in
    let f = facts _ _ s.is_served in
    let p = err_from_is_err_and c.from_residual-in_err-count_tiles.result c.from_residual-in_err-count_tiles.ensures.1 in
    let told = c.in_err-count_tiles.ensures.counts in
    let wrong : letters_below s.n c.args.tiles.now ≡ false = rw (length_zeros s.n 64 f.letters) at told.1 in
    rw (p.1, p.2, told.0, ← c.in_ok-sizes.ensures.0, ← c.in_ok-sizes.ensures.1) (rank_bytes_gives (rw (s.is_served, wrong)))

-- the tally ends with all that there are
letters : (c : goal.In_ok-count_tiles) → letters_below c.in_ok-sizes.sizes.n c.args.tiles.now ≡ true
letters c =
    let s = c.in_ok-sizes.sizes in
    rw (length_zeros s.n 64 (facts _ _ s.is_served).letters) at c.in_ok-count_tiles.ensures.counts.0

counted : (c : goal.In_ok-count_tiles) → c.count_tiles.new.tally ≡ tally_of c.in_ok-sizes.sizes.n c.args.tiles.now
counted c =
    let s = c.in_ok-sizes.sizes in
    c.in_ok-count_tiles.ensures.counts.1 ∙ ap (λ k. tally_of k c.args.tiles.now) (length_zeros s.n 64 (facts _ _ s.is_served).letters)

places : (c : goal.In_ok-count_tiles) → length c.count_tiles.new.tally ≡ c.in_ok-sizes.sizes.n
places c = ap length (counted c) ∙ length_tally_of _ _

pub rank_within-requires : goal.rank_within-requires
rank_within-requires c =
    let s = c.in_ok-sizes.sizes in
    ap (λ k. served k s.r) (places (goal.at.rank_within-requires c).In_ok-count_tiles) ∙ s.is_served

pub returns : goal.returns
unfolding rank_bytes_answer
returns c =
    let s = c.in_ok-sizes.sizes in
    let few : length c.args.tiles.now ≤ s.r = c.if-sizes-tiles.false in
    let b = letters (goal.at.returns c).In_ok-count_tiles in
    let e = counted (goal.at.returns c).In_ok-count_tiles in
    let l = places (goal.at.returns c).In_ok-count_tiles in
    let fits : total (tally_of s.n c.args.tiles.now) ≤ s.r = rw (total_tally_of s.n c.args.tiles.now b) few in
    let ranked : rank_within (length c.count_tiles.new.tally) s.r c.count_tiles.new.tally ≡ Ok (rank_of s.n (tally_of s.n c.args.tiles.now)) = rw (l, e, le-leb _ _ fits) in
    rw (← c.in_ok-sizes.ensures.0, ← c.in_ok-sizes.ensures.1)
    (rank_bytes_gives (rw (s.is_served, b, le-leb _ _ few) (c.rank_within.ensures ∙ ranked)))
