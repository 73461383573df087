-- `search::is_small` meets its contract. Assumes nothing.
use Rattle.std.proofs.Common.{◌∙◌, ap, w32}
use mir.ValLaws.{to_z-of_z}
use Rattle.search.specs.Split.{small}
use Rattle.search.specs.Best.{small_range}
use Rattle.search.proofs.is_small.Goals as goal

pub returns : goal.returns
returns c =
    (rw (c.new.ensures.start, c.new.ensures.end, c.new.ensures.exhausted) at c.contains.ensures.value) ∙ small_range _ ∙ ap small (to_z-of_z w32 c.args.x c.ranges.x)
