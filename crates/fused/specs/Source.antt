-- Where the bests that a mode takes come from. Assumes nothing.
use Rattle.std.specs.Prelude.{if◌then◌else◌}
use Rattle.fused.specs.declared.mode.Mode.{Mode}
use Rattle.fused.specs.declared.mode.Source.{Source}
use Rattle.fused.specs.declared.mode.Source.TheVariants.{Sheet, Scatter, Split}
use Rattle.fused.specs.Answer.{sheet_alone, in_force}

abbrev pub source_of : Mode → Source
source_of m = if sheet_alone m then Sheet else (if in_force m then Scatter else Split)
