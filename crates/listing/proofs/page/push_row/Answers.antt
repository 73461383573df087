-- Four fields: the rank, the count, the sum and the mean.
use Rattle.std.proofs.Common.{◌++◌, ap, ◌∙◌, to_z-of_z, w32, w64}
use Rattle.text.specs.Text.{line}
use Rattle.listing.proofs.Lines.{row_same, top_whole, bottom_whole}
use Rattle.listing.proofs.page.push_row.Goals as goal

pub returns-clause-row : goal.returns-clause-row
returns-clause-row c = λ v.
    c.push_line.ensures.text
    ∙ ap (c.args.page.now.items ++◌) (ap line (row_same
    (to_z-of_z {w = w64} (record { sfits = c.from.type_inv }) ∙ c.from.ensures)
    (to_z-of_z {w = w64} (record { sfits = c.integer.type_inv }) ∙ c.integer.ensures (bottom_whole v))
    (to_z-of_z {w = w64} (record { sfits = c.integer-2.type_inv }) ∙ c.integer-2.ensures (top_whole v))
    (to_z-of_z {w = w64} (record { sfits = c.from-mean.type_inv }) ∙ c.from-mean.ensures ∙ to_z-of_z {w = w32} (record { sfits = c.cut.type_inv }) ∙ c.cut.ensures v)))
