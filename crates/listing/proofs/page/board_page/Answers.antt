-- The tables have the board's length, and the sums begin at +0.0.
use Rattle.std.proofs.Common.{◌≤◌, length, arith}
use lib.ListN.{length-replicate}
use Rattle.std.proofs.lemmas.Grind.{common_steps}
use Rattle.listing.proofs.Census.{leaves_few, clear_start}
use Rattle.listing.proofs.page.board_page.Goals as goal

pub census-requires-clause-num_clear : goal.census-requires-clause-num_clear
census-requires-clause-num_clear c = let b = c.args.board in clear_start (length b.sheet.now) 512 (omega (arith, b.sheets, b.few))

pub census-requires-clause-den_clear : goal.census-requires-clause-den_clear
census-requires-clause-den_clear c = let b = c.args.board in clear_start (length b.sheet.now) 512 (omega (arith, b.sheets, b.few))

pub sums_page-requires-clause-nums : goal.sums_page-requires-clause-nums
sums_page-requires-clause-nums c =
    let b = c.args.board in
    let h : length b.sheet.now ≤ 512 = omega (arith, b.sheets, b.few) in
    grind (arith, common_steps, leaves_few b.n b.r b.served, c.census.auto.num, length-replicate)

pub sums_page-requires-clause-dens : goal.sums_page-requires-clause-dens
sums_page-requires-clause-dens c =
    let b = c.args.board in
    let h : length b.sheet.now ≤ 512 = omega (arith, b.sheets, b.few) in
    grind (arith, common_steps, leaves_few b.n b.r b.served, c.census.auto.den, length-replicate)
