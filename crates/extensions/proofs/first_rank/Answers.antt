-- `extensions::first_rank` meets its contract: the tile is put on, and taken back. Assumes nothing.
use Rattle.std.proofs.Common.{◌+◌, ◌-◌, length, get_or, arith, length-set}
use Rattle.lattice.specs.Served.{facts}
use Rattle.extensions.proofs.Laws.{taken_back, added_fits, added_tiles, added_rank}
use Rattle.extensions.proofs.first_rank.Goals as goal

pub overflow_sub-last : goal.overflow_sub-last
overflow_sub-last c = (facts (length c.args.tally.now) c.args.r c.requires.served).some_letter

pub bounds-tally-last : goal.bounds-tally-last
bounds-tally-last c = omega (arith, (facts (length c.args.tally.now) c.args.r c.requires.served).some_letter)

pub overflow_add-tally : goal.overflow_add-tally
overflow_add-tally c = added_fits c.args.tally.now c.requires.served c.requires.tiles

pub bounds-tally-last-2 : goal.bounds-tally-last-2
bounds-tally-last-2 c = omega (arith, (facts (length c.args.tally.now) c.args.r c.requires.served).some_letter)

pub rank_of-rank-requires-clause-tiles : goal.rank_of-rank-requires-clause-tiles
rank_of-rank-requires-clause-tiles c = added_tiles c.args.tally.now c.requires.served c.requires.tiles

pub bounds-tally-last-3 : goal.bounds-tally-last-3
bounds-tally-last-3 c =
    let t = c.args.tally.now in
    omega (arith, length-set t (length t - 1) (get_or t (length t - 1) 0 + 1), (facts (length t) c.args.r c.requires.served).some_letter)

pub returns-clause-rank : goal.returns-clause-rank
returns-clause-rank c = added_rank c.args.tally.now c.requires.served c.requires.tiles c.rank_of-rank.ensures

pub returns-clause-same : goal.returns-clause-same
returns-clause-same c =
    let t = c.args.tally.now in
    taken_back t (length t - 1) (get_or t (length t - 1) 0 + 1)
