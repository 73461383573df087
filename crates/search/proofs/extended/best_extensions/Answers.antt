-- `search::extended::best_extensions` meets its contract. Assumes nothing.
use Rattle.std.proofs.Common.{rules}
use Rattle.search.specs.Raised.{Cleared}
use Rattle.search.specs.Extended.{extended_all}
use Rattle.search.proofs.extended.best_extensions.Goals as goal

pub returns : goal.returns
returns c =
    let cleared : Cleared c.args.run.now c.fill.new.self = search rules in
    extended_all c.requires cleared c.raise_extensions.ensures
