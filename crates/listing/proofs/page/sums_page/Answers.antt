-- The header, and a line for each leave.
use Rattle.std.proofs.Common.{◌≡◌, ◌<◌, ◌≤◌, length, ap, ◌∙◌, to_z-of_z, w64, arith, rules}
use mir.ValLaws.{to_z_pos}
use Rattle.lattice.specs.Tally.{start}
use Rattle.listing.specs.Board.{board_lent}
use Rattle.listing.proofs.Census.{sizes_served, leaves_some}
use Rattle.listing.proofs.Lines.{bottom_whole, header_is, row_is, page_is}
use Rattle.listing.proofs.page.sums_page.Goals as goal

pub overflow_cast-board-2 : goal.overflow_cast-board-2
overflow_cast-board-2 c =
    let b = c.args.board in
    let h : b.r ≤ 15 = (sizes_served b.n b.r b.served).tiles in
    search rules

pub integer-requires : goal.integer-requires
integer-requires c = let b = c.args.board in bottom_whole (c.requires.summed.ratio 0 (leaves_some b.n b.r b.served))

pub loop-rank-init : goal.loop-rank-init
loop-rank-init c =
    let b = c.args.board in
    let q = sizes_served b.n b.r b.served in
    let s = c.requires.summed in
    let h = leaves_some b.n b.r b.served in
    record {
      text =
          header_is s h b.counts c.new-page.ensures c.push_line.ensures.text
          (to_z_pos w64 b.n (omega (arith, q.letters)))
          (to_z_pos w64 b.r (omega (arith, q.tiles)))
          (to_z-of_z {w = w64} (record { sfits = c.integer.type_inv }) ∙ c.integer.ensures (bottom_whole (s.ratio 0 h)));
      short = omega (arith, ap length c.new-page.ensures);
    }

pub loop-rank-preserved : goal.loop-rank-preserved
loop-rank-preserved c =
    let b = c.args.board in
    let h : c.loop-rank.rank < start b.n b.r = omega (arith, c.leaves-rank-end.ensures) in
    record { text = row_is c.requires.summed c.loop-rank.rank h c.loop-rank.invariant.text (c.push_row.ensures.row (c.requires.summed.ratio c.loop-rank.rank h)); short = omega arith }

pub returns : goal.returns
returns c =
    let b = c.args.board in
    let all : c.loop-rank.rank ≡ start b.n b.r = omega (arith, c.leaves-rank-end.ensures) in
    c.loop-rank.invariant.text ∙ page_is (board_lent b) all
