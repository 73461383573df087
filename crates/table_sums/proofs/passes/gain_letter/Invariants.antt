-- The multisets of at least s tiles are done. Assumes nothing.
use Rattle.table_sums.specs.Passes.{Down}
use Rattle.table_sums.proofs.passes.gain_letter.Given as goal

abbrev pub invariant-loop-s : goal.invariant-loop-s
invariant-loop-s l = Down l.sizes.n l.sizes.r l.t l.s l.initial.xs l.xs
