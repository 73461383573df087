use Rattle.std.proofs.Common.{◌+◌, ◌-◌, ◌<◌, length, arith}
use Rattle.binomials.specs.Binomial.{binomial}
use Rattle.lattice.specs.Served.{Served, facts}
use Rattle.lattice.proofs.Filling.{rest_small, placed_at}
use Rattle.lattice.proofs.unrank_within.Goals.{After-place_of-place}
use Rattle.lattice.proofs.unrank_within.Goals as goal

sizes : (c : goal.After-place_of-place) → Served (length c.args.out.now) c.args.r
sizes c = facts _ _ c.requires.sizes

rest : (c : goal.After-place_of-place) → c.place_of-place.result.rest < binomial (c.place_of-place.result.size + (length c.args.out.now - 1)) (length c.args.out.now - 1)
rest c =
    let b = c.place_of-place in
    rest_small _ b.result.size b.result.rest c.args.rank (sizes c).some_letter b.ensures.place b.ensures.below

pub place_of-place-requires : goal.place_of-place-requires
place_of-place-requires c =
    let s = facts (length c.args.out.now) c.args.r c.requires.sizes in
    record { letters = s.letters; tiles = s.tiles; inside = c.requires.inside }

pub fill_few-requires-clause-letter : goal.fill_few-requires-clause-letter
fill_few-requires-clause-letter c = (sizes (goal.at.fill_few-requires-clause-letter c).After-place_of-place).some_letter

pub fill_few-requires-clause-inside : goal.fill_few-requires-clause-inside
fill_few-requires-clause-inside c = rest (goal.at.fill_few-requires-clause-inside c).After-place_of-place

pub returns-then-place-lt4 : goal.returns-then-place-lt4
returns-then-place-lt4 c =
    let f = c.fill_few in
    let b = c.place_of-place in
    placed_at _ _ _ b.result.size b.result.rest _ f.auto.out b.ensures.size b.ensures.place (f.ensures.tiles, f.ensures.place)

pub fill-requires : goal.fill-requires
fill-requires c =
    let a = (goal.at.fill-requires c).After-place_of-place in
    let s = sizes a in
    record { letter = s.some_letter; letters = s.letters; tiles = omega (arith, s.tiles, c.place_of-place.ensures.size); inside = rest a }

pub returns-else-out-lt8 : goal.returns-else-out-lt8
returns-else-out-lt8 c =
    let f = c.fill in
    let b = c.place_of-place in
    placed_at _ _ _ b.result.size b.result.rest _ f.auto.out b.ensures.size b.ensures.place (f.ensures.tiles, f.ensures.place)
