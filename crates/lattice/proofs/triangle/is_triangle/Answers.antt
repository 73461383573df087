-- `lattice::triangle::is_triangle` meets its contract. Where the product could wrap there are more entries than any slice has. Assumes nothing.
use Rattle.std.proofs.Common.{sym, ◌∙◌, refl, arith, ne_eqb, le-ltb}
use Rattle.lattice.specs.Triangle.{row_start}
use Rattle.lattice.proofs.Rows.{too_many}
use Rattle.lattice.proofs.triangle.is_triangle.Goals as goal

pub returns-then-rows-lt2147483648 : goal.returns-then-rows-lt2147483648
unfolding row_start
returns-then-rows-lt2147483648 c = refl

pub returns-else-rows-lt2147483648 : goal.returns-else-rows-lt2147483648
returns-else-rows-lt2147483648 c =
    let h = too_many c.args.rows c.if-rows-lt2147483648.false in
    le-ltb c.args.rows 2147483648 c.if-rows-lt2147483648.false ∙ sym (ne_eqb c.args.size (row_start c.args.rows) (λ e. omega arith))
