-- `lattice::letters::letter` meets its contract. The part is within the table, by the product of letter and rows. Assumes nothing.
use Rattle.std.proofs.Common.{◌<◌, length, arith}
use Rattle.std.proofs.lemmas.Bool.Decides.{nat_tests}
use Rattle.lattice.proofs.LetterParts.{part_within}
use Rattle.lattice.proofs.letters.letter.Goals as goal

pub slice_bounds-result-end-2 : goal.slice_bounds-result-end-2
slice_bounds-result-end-2 c =
    let a = c.args in
    let some : 0 < length a.by_letter.now = grind (arith, nat_tests) in
    omega (arith, part_within a.n a.rows a.t a.by_letter.now c.requires c.if-n-t.false (λ e. omega arith))
