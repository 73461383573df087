-- A letter's ranks are a row apart, or side by side. Assumes nothing.
use Rattle.fused.proofs.Laws.{column_by_index, column_by_letter}
use Rattle.fused.proofs.zeta.column_of.Goals as goal

pub returns-in-Some : goal.returns-in-Some
returns-in-Some c =
    let s = c.args.supersets.now in
    column_by_letter s.by_index c.requires (s.letter_by_letter c.in-Some.letters c.in-Some.is)

pub returns-in-None : goal.returns-in-None
returns-in-None c = column_by_index c.args.supersets.now.by_index c.requires
