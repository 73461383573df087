-- One write more.
use Rattle.std.proofs.Common.{◌≡◌, List, ℕ, sym, ap, subst, rules, Bor}
use Rattle.listing.proofs.Sending.{Sent, sent_more, sent_same}
use Rattle.listing.proofs.run.write_page.Goals as goal
use Rattle.listing.proofs.run.write_page.Goals.{in-Ok, in-Err}

pub loop-preserved : goal.loop-preserved
loop-preserved g c =
    elim c.match-write.branch [
      | in-Ok w ↦ sent_more c.loop.invariant w.in-Ok.count w.in-Ok.ensures.bytes (ap (λ (r : Bor (List ℕ)). r.now) w.rest-is)
      | in-Err w ↦
          let same : c.match-write.rest.now ≡ c.loop.rest.now = search rules in
          subst (Sent (g.W.Write.contents c.args.writer.now) (g.W.Write.contents c.write.new.self) c.args.page.now) (sym same) (sent_same c.loop.invariant w.in-Err.ensures.bytes)
    ]
