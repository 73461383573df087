-- `census::tables::census_letter` meets its contract: a part with entries starts after those of the letters before. Assumes nothing.
use Rattle.std.proofs.Common.{subst}
use Rattle.lattice.specs.TableCalls.{LetterPart}
use Rattle.census.proofs.Letters.{letter_some}
use Rattle.census.proofs.tables.census_letter.Goals as goal

pub returns : goal.returns
returns c =
    let a = c.args in
    let p = letter_some a.n a.r a.by_letter.now a.t c.letter-part.ensures c.if-len-eq0.false in
    (p.inside, subst (LetterPart a.n a.r a.by_letter.now a.t) p.is c.letter-part.ensures)
