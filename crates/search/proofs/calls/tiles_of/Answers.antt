use Rattle.std.proofs.Common.{◌≡◌, ℕ, ◌∙◌, sum_by, rules}
use Rattle.search.specs.Counts.{total_sum}
use Rattle.search.proofs.calls.tiles_of.Goals as goal

pub returns : goal.returns
returns c =
    let e : c.sum.result ≡ sum_by (λ (k : ℕ). k) c.args.tally.now = search rules in
    e ∙ total_sum c.args.tally.now
