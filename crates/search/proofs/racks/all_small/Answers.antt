-- `search::racks::all_small` meets its contract. Assumes nothing.
use Rattle.std.proofs.Common.{◌≡◌, ◌↔◌, true, rules}
use Rattle.std.specs.Prelude.{IsTrue, All}
use Rattle.search.specs.Split.{small}
use Rattle.search.specs.Racks.{all_told}
use Rattle.search.proofs.racks.all_small.Goals as goal

pub returns-clause-told : goal.returns-clause-told
returns-clause-told c =
    let e : IsTrue c.all.result ↔ All (λ x. small x ≡ true) c.args.entries.now = search rules in
    all_told c.args.entries.now e
