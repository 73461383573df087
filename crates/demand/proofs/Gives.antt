-- Each road's contract gives this of an accepted call. Assumes nothing.
use Rattle.std.specs.Prelude.{refl, List, Float, ℤ}
use Rattle.std.proofs.Common.{le_trans, arith}
use Rattle.std.proofs.Math.Nat.{le-max_left}
use Rattle.laws.specs.Tests.{T→true, and_right}
use Rattle.hands.specs.Hands.{holds}
use Rattle.fused.specs.Answer as Fu
use Rattle.fused.specs.Answer.{input, mode_best, most}
use Rattle.fused.specs.declared.mode.Mode.{Mode}
use Rattle.fused.specs.Modes.{mode_most, mode_split}
use Rattle.table_sums.specs.Table.{best_at, most_best, Apportioned, accepted_of}
use Rattle.table_sums.specs.Dealt.{best_within}
use Rattle.demand.specs.Demand.{Board, Road, table, fused, TrueBest, TrueFused, Premises, FusedCall, Called}
use Rattle.demand.specs.Gives.{Gives}

-- the table road: the bests are those of its table
table_gives : (b : Board) (best : List ℤ) → TrueBest b best → {num den num' den' : List Float} → Apportioned b.n b.r best b.pool num den 0 num' den' → Gives b num' den'
table_gives b best is_true c =
    let a = accepted_of c.answered refl in
    let f = c.filled refl in
    record {
      letters = a.1.letters;
      best = best_at b.n best;
      is_split = is_true;
      sum = λ m l h. f.sum m (record { letters = l; tiles = omega arith });
      count = λ m l h. f.count m (record { letters = l; tiles = omega arith });
      most = most_best b.n b.r best b.pool;
      some = le_trans (omega arith) (le-max_left 16 _);
      within = λ R f d. best_within b.n b.r best b.pool R f (T→true (holds b.pool R) d);
      limit = a.3.within;
    }

-- the fused roads: the bests are those of the mode
fused_gives : (b : Board) (mode : Mode) (leave_max : List ℤ) → TrueFused b mode leave_max → {num den num' den' : List Float} → FusedCall b mode leave_max num den 0 num' den' → Gives b num' den'
fused_gives b mode leave_max is_true c =
    let g = input b.n b.r c.add c.by_letter b.sheet b.leave leave_max b.pool mode in
    let a = Fu.accepted_of c.contract.answered refl in
    let s = (c.contract.filled refl).sums in
    record {
      letters = a.sound.lengths.in_pool;
      best = mode_best g;
      is_split = λ R f d. mode_split a.sound R f d (λ e. is_true.no_leave (and_right mode.zeta mode.null_leave e));
      sum = s.sum;
      count = s.count;
      most = most g;
      some = le_trans (omega arith) (le-max_left 16 _);
      within = λ R f d. mode_most a.sound R f d;
      limit = a.sound.limit.within;
    }

pub road_gives : (b : Board) (road : Road) → Premises b road → (num den num' den' : List Float) → Called b road num den 0 num' den' → Gives b num' den'
road_gives b (table best) p num den num' den' c = table_gives b best p.given c
road_gives b (fused mode leave_max) p num den num' den' c = fused_gives b mode leave_max p.given c
