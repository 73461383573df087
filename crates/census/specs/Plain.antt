-- What a plain answer says: the number of the refusal (docs/SCOPE.md, "Refusals"), the lowest that applies, and the value. Assumes nothing.
use Rattle.std.specs.Prelude.{◌≡◌, Bool, List, ℕ, ℤ}
use Rattle.std.proofs.Common.{◌∙◌}
use Rattle.lattice.specs.Tally.{rank_of, minus}
use Rattle.refusal.specs.Refusal.{number_of}
use Rattle.lattice.specs.Answers.{Answer}
use Rattle.lattice.specs.Numbers.{value, or_none, Gives, GivesRank, AtPlace}
use Rattle.whole.specs.Mean.{unplayable}
use Rattle.search.specs.Answers.{given, Kind, word, exchange, no_move, refusal, by_kind, played}
use Rattle.search.specs.BestKeep.{no_leave}
use Rattle.search.specs.Order.{kept}
use Rattle.search.specs.Split.{best_split}
use Rattle.search.specs.declared.Kept.{Kept}
use Rattle.fused.specs.declared.mode.Mode.{Mode}
use Rattle.draws.specs.Draws.{Drawn, DrawNumber, draw_mean, given as givenMean, Valued, value as drawValue}

-- a size or a start: none where refused
pub record PlainSize (refusal v answered answer : ℕ) : Type 0 where
  pub numbered : answered ≡ refusal
  pub valued : answer ≡ or_none refusal v

-- a rank: none where refused, otherwise where the multiset t stands
pub record PlainRank (n r : ℕ) (t : List ℕ) (refusal answered answer : ℕ) : Type 0 where
  pub plain : PlainSize refusal (rank_of n t) answered answer
  pub placed : answered ≡ 0 → AtPlace n r t answer

-- a best: UNPLAYABLE where refused
pub record PlainBest (refusal : ℕ) (v : ℤ) (answered : ℕ) (answer : ℤ) : Type 0 where
  pub numbered : answered ≡ refusal
  pub valued : answer ≡ given refusal v unplayable

-- the best leave's value and rank: UNPLAYABLE and none where refused
pub record PlainKeep (refusal : ℕ) (v : Kept) (answered : ℕ) (worth : ℤ) (rank : ℕ) : Type 0 where
  pub numbered : answered ≡ refusal
  pub valued : kept worth rank ≡ given refusal v no_leave

-- the kind of a move, as a byte
unfoldable pub kind_byte : Kind → ℕ
kind_byte no_move = 0
kind_byte word = 1
kind_byte exchange = 2

-- the naive search: the best, the kind, and the kept tally in its slice; UNPLAYABLE, no move and the slice untouched where refused
pub record PlainPlay (n r : ℕ) (sheet leave : List ℤ) (t entry : List ℕ) (answered kind : ℕ) (answer : ℤ) (exit : List ℕ) : Type 0 where
  pub numbered : answered ≡ refusal n r sheet leave t entry
  pub kinded : kind ≡ kind_byte (given (refusal n r sheet leave t entry) (by_kind n r sheet leave t entry word exchange) no_move)
  pub valued : answer ≡ given (refusal n r sheet leave t entry) (best_split sheet leave n t) unplayable
  pub rest : exit ≡ given (refusal n r sheet leave t entry) (minus t (played n r sheet leave t entry)) entry

-- draws: the mean, UNPLAYABLE where there is no draw or where refused
pub record PlainDraw (n r : ℕ) (add : List ℕ) (full : List ℤ) (pool : List ℕ) (i d answered : ℕ) (answer : ℤ) : Type 0 where
  pub numbered : DrawNumber n r add full pool i d answered
  pub valued : answer ≡ givenMean answered (draw_mean n r full pool i d)

-- the three flags of the fused sums
abbrev pub flags : Bool → Bool → Bool → Mode
flags zeta null-leave scatter = record { zeta = zeta; null_leave = null-leave; scatter = scatter }

-- ---- from the lattice's answers

-- an answer taken apart
abbrev pub Apart : Answer → ℕ → ℕ → Type 0
Apart b k v = (k ≡ number_of b) × (v ≡ value b)

pub size_apart : {b answer : Answer} {refusal v x y : ℕ} → Gives b answer refusal v → Apart b x y → PlainSize refusal v x y
size_apart g a = record { numbered = a.0 ∙ g.numbered; valued = a.1 ∙ g.valued }

pub rank_apart : {n r : ℕ} {t : List ℕ} {b answer : Answer} {refusal x y : ℕ} → GivesRank n r t b answer refusal → Apart b x y → PlainRank n r t refusal x y
rank_apart {n} {r} {t} {b} g a =
    record {
      plain = size_apart g.gives a;
      placed = λ z. rw a.1 (g.placed (rw a.0 at z));
    }

-- ---- from the draws' answers

pub draw_apart : {n r : ℕ} {add : List ℕ} {full : List ℤ} {pool : List ℕ} {i d x : ℕ} {y : ℤ} {b : Drawn} → Valued n r add full pool i d b
    → (x ≡ number_of b) × (y ≡ drawValue b) → PlainDraw n r add full pool i d x y
draw_apart {n} {r} {add} {full} {pool} {i} {d} v a = rw (a.0, a.1) (record { numbered = v.numbered; valued = v.valued })
