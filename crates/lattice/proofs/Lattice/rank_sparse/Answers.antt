use Rattle.lattice.proofs.Calls.{rank_sparse_gives}
use Rattle.lattice.proofs.Lattice.rank_sparse.Goals as goal

pub returns-else-self-ge1 : goal.returns-else-self-ge1
returns-else-self-ge1 c = rank_sparse_gives c.sparse_of_any.ensures

pub returns-then-s-self : goal.returns-then-s-self
returns-then-s-self c = rank_sparse_gives c.sparse_of_seven.ensures
