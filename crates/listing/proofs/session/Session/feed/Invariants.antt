-- The first bytes are taken; where a refusal is kept, none is.
use Rattle.std.proofs.Common.{◌≡◌, ℕ, List, ◌++◌, take, OnErr}
use Rattle.listing.specs.Taken.{SoFar}
use Rattle.listing.proofs.session.Session.feed.Given as goal

abbrev pub invariant-loop-byte : goal.invariant-loop-byte
invariant-loop-byte l = record {
  so_far : (text : List ℕ) → SoFar text l.fn.self → SoFar (text ++ take l.byte-index l.bytes) l.self;
  stays : OnErr l.fn.self.standing (l.self ≡ l.fn.self);
}
