use mathlib.Core.Bool.{false≢true}
use Rattle.std.proofs.Common.{sym, ◌∙◌}
use Rattle.lattice.specs.RankTables.RanksNumber.{accepted, lengths, rule}
use Rattle.lattice.proofs.rank_tables.Ranks.judge.Goals as goal

pub returns-then-not-have_lengths-clause-number : goal.returns-then-not-have_lengths-clause-number
returns-then-not-have_lengths-clause-number c = lengths (λ l. false≢true (sym c.if-not-have_lengths.true ∙ c.have_lengths.ensures.1 l))

pub returns-then-not-tables_are_right-clause-number : goal.returns-then-not-tables_are_right-clause-number
returns-then-not-tables_are_right-clause-number c = rule (c.have_lengths.ensures.0 c.if-not-have_lengths.false) (c.tables_are_right.ensures.no c.if-not-tables_are_right.true)

pub returns-clause-number : goal.returns-clause-number
returns-clause-number c = accepted (c.have_lengths.ensures.0 c.if-not-have_lengths.false) (c.tables_are_right.ensures.yes c.if-not-tables_are_right.false)
