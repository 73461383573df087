use Rattle.binomials.proofs.Pascal.{entry}
use Rattle.binomials.proofs.choose.Goals as goal

pub returns : goal.returns
returns c = entry c.args.p c.args.k c.requires.letters c.requires.tiles
