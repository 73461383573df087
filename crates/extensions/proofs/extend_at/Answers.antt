-- `extensions::extend_at` meets its contract: the tally at the rank is a leave of one tile less than a rack. Assumes nothing.
use Rattle.std.proofs.Common.{length, arith}
use Rattle.lattice.specs.Served.{facts}
use Rattle.extensions.proofs.Laws.{rank_inside, leave_tiles, leave_made}
use Rattle.extensions.proofs.extend_at.Goals as goal

pub unrank_within-requires-clause-inside : goal.unrank_within-requires-clause-inside
unrank_within-requires-clause-inside c =
    rank_inside (length c.args.tally.now) c.args.r c.args.rank c.requires.served c.requires.from c.requires.below

pub letters_of-requires : goal.letters_of-requires
letters_of-requires c = omega (arith, c.unrank_within.ensures.letters, (facts (length c.args.tally.now) c.args.r c.requires.served).letters)

pub stop_of-requires : goal.stop_of-requires
stop_of-requires c = omega (arith, c.unrank_within.ensures.letters, (facts (length c.args.tally.now) c.args.r c.requires.served).some_letter)

pub first_rank-requires-clause-tiles : goal.first_rank-requires-clause-tiles
first_rank-requires-clause-tiles c =
    leave_tiles (length c.args.tally.now) c.args.r c.args.rank c.requires.served c.requires.from c.requires.below c.unrank_within.ensures

pub returns-clause-leave : goal.returns-clause-leave
returns-clause-leave c =
    leave_made (length c.args.tally.now) c.args.r c.args.rank c.requires.served c.requires.from c.requires.below c.unrank_within.ensures c.stop_of.ensures (c.first_rank.ensures.rank, c.first_rank.ensures.same)
