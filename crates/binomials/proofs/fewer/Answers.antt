use Rattle.binomials.proofs.Pascal.{fewer_none, fewer_some, fewer_small}
use Rattle.binomials.proofs.fewer.Goals as goal

pub returns-clause-none : goal.returns-clause-none
returns-clause-none c = fewer_none c.args.p c.args.s c.requires.letters

pub returns-clause-some : goal.returns-clause-some
returns-clause-some c = fewer_some c.args.p c.args.s c.requires.letters c.requires.tiles

pub returns-clause-small : goal.returns-clause-small
returns-clause-small c = fewer_small c.args.p c.args.s c.requires.letters c.requires.tiles
