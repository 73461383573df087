-- The sheet has an entry, that of no tiles. Assumes nothing.
use Rattle.fused.proofs.Judges.{some_multiset}
use Rattle.fused.proofs.judge.scatters.Goals as goal

pub word_sheet-requires : goal.word_sheet-requires
word_sheet-requires c = rw c.requires.in_sheet (some_multiset c.args.sizes)
