-- What the walk over the draws asks, and that each letter and each tile hands it on. Assumes nothing.
use Rattle.std.specs.Prelude.{◌≡◌, refl, List, [], ◌∷◌, ℤ, pos, Float, length, get_or, drop}
use Rattle.std.proofs.Common.{sym, ap, ◌∙◌, subst, mul-le-mul_right, suc-mul, drop-cons}
use Prim.Native.Nat.{ℕ, zero, suc, ◌+◌, ◌-◌, ◌*◌, ◌≤◌, ◌<◌, min}
use Rattle.std.proofs.Math.Decide.{dec_lt}
use native.Mathlib.Omega.{arith}
use Rattle.std.specs.Float.{binary64}
use Rattle.std.specs.Float.Ieee.{mul, div}
use Rattle.whole.specs.Whole.{whole}
use Rattle.std.proofs.Math.Seq.{drop-length}
use Rattle.lattice.specs.Tally.{total, start, rank_of, add_tile, total_nil, total_cons}
use Rattle.lattice.specs.Tables.{up}
use Rattle.lattice.specs.Rank.{rank_to, total_add_tile, length_add_tile}
use Rattle.lattice.specs.Leaves.{AddTable, leave_rank}
use Rattle.draws.specs.declared.walk.Totals.{Totals}
use Rattle.draws.specs.Walk.{running, factor, factor_none, climb, met, met_to, met_cons, met_none, met_lacking, met_short, met_to_zero, met_to_suc, met_tile, met_tile_lem, Gathered, gathered_none, gathered_append}

-- i is the rank of a multiset that is rem tiles short of a full rack
pub record Short (n r rem i : ℕ) : Type 0 where
  pub rack : List ℕ
  pub letters : length rack ≡ n
  pub tiles : total rack + rem ≡ r
  pub rank : rank_of n rack ≡ i

-- the racks have r tiles, and the table is that of ranks with one tile more; rem tiles are to come from the letters from t on, of which
-- the pool has left; i is the rank of the leave with the tiles drawn so far
pub record Walking (r : ℕ) (table : List ℕ) (full : List ℤ) (pool : List ℕ) (t rem left i : ℕ) : Type 0 where
  pub right : AddTable (length pool) r table
  pub bests : length full ≡ start (length pool) (suc r)
  pub letters : t ≤ length pool
  pub tiles : left ≡ total (drop t pool)
  pub short : Short (length pool) r rem i

-- a full rack's best stands in the table
pub short_none : {n r rem i : ℕ} → Short n r rem i → rem ≡ 0 → i < start n (suc r)
short_none {n} {r} {rem} {i} s z =
    let e : total s.rack ≡ r = omega (arith, s.tiles) in
    omega (arith, rank_to n s.rack s.letters, ap (λ (k : ℕ). start n (suc k)) e, s.rank)

module _ {n r : ℕ} {table : List ℕ} (right : AddTable n r table) {t : ℕ} (there : t < n) where
  -- its rank with one tile more stands in the table
  pub short_place : {rem i : ℕ} → Short n r rem i → 0 < rem → i * n + t < length table
  short_place {rem} {i} s some =
      let below : i < start n r = subst (λ (k : ℕ). k < start n r) s.rank (leave_rank n r s.rack s.letters (omega (arith, s.tiles))) in
      omega (arith, right.rows, suc-mul i n, mul-le-mul_right n below)

  short_up : {rem i : ℕ} → Short n r (suc rem) i → Short n r rem (up n table t i)
  short_up {rem} {i} s = record {
    rack = add_tile s.rack t;
    letters = length_add_tile s.rack t ∙ s.letters;
    tiles = omega (arith, s.tiles, total_add_tile s.rack t (omega (arith, s.letters)));
    rank = sym (right.entry s.rack t s.letters (omega (arith, s.tiles)) there) ∙ ap (up n table t) s.rank;
  }

  pub short_climb : {rem i : ℕ} (c : ℕ) → c ≤ rem → Short n r rem i → Short n r (rem - c) (climb n table t c i)
  unfolding climb
  short_climb {rem} zero h s =
      let e : rem - 0 ≡ rem = omega arith in
      rw e s
  short_climb {rem} {i} (suc c) h s =
      let e : rem - c ≡ suc (rem - suc c) = omega arith in
      short_up (rw e at (short_climb c (omega arith) s))

-- ---- what is met

module _ {r : ℕ} {table : List ℕ} {full : List ℤ} {pool : List ℕ} {t rem left i : ℕ} (walk : Walking r table full pool t rem left i) (w : Float) where
  abbrev n : ℕ
  n = length pool

  -- no tile is to come
  pub walk_none : {a b : Totals} → rem ≡ 0 → Gathered full ((w, i) ∷ []) a b → Gathered full (met factor n table t (drop t pool) rem w i) a b
  walk_none z g = rw (z, met_none factor n table factor_none t (drop t pool) w i) g

  -- too many are to come
  pub walk_lacking : (a : Totals) → left < rem → Gathered full (met factor n table t (drop t pool) rem w i) a a
  walk_lacking a h = rw (met_lacking factor n table t (drop t pool) rem w i (omega (arith, walk.tiles))) (gathered_none a)

  module _ (some : rem ≡ 0 → ⊥) (enough : rem ≤ left) where
    pub letter_there : t < length pool
    letter_there = go (dec_lt t (length pool))
      where
        go : Dec (t < length pool) → t < length pool
        go (yes h) = h
        go (no h) =
            let e : t ≡ length pool = omega (arith, walk.letters) in
            let z : left ≡ 0 = walk.tiles ∙ ap (λ (k : ℕ). total (drop k pool)) e ∙ ap total (drop-length pool) ∙ total_nil in
            absurd (some (omega arith))

    module _ {u : ℕ} (here : u ≡ get_or pool t 0) where
      letter_first : drop t pool ≡ u ∷ drop (suc t) pool
      letter_first = drop-cons pool t 0 letter_there ∙ ap (λ (x : ℕ). x ∷ drop (suc t) pool) (sym here)

      pub left_is : left ≡ u + total (drop (suc t) pool)
      left_is = walk.tiles ∙ ap total letter_first ∙ total_cons u (drop (suc t) pool)

      pub walk_next : {t' rem' rest i' : ℕ} (c : ℕ) → t' ≡ suc t → rest ≡ left - u → c ≤ rem → rem' ≡ rem - c → i' ≡ climb n table t c i → Walking r table full pool t' rem' rest i'
      walk_next c e f h g k = record {
        right = walk.right;
        bests = walk.bests;
        letters = omega (arith, letter_there);
        tiles = omega (arith, left_is) ∙ ap (λ (x : ℕ). total (drop x pool)) (sym e);
        short = rw (g, k) (short_climb walk.right letter_there c h walk.short);
      }

      -- the turn with no tile of the letter
      pub turn_first : {t' : ℕ} {a b : Totals} → t' ≡ suc t → Gathered full (met factor n table t' (drop t' pool) rem w i) a b
          → Gathered full (met_to factor n table t u (drop (suc t) pool) rem w i 1) a b
      unfolding climb
      turn_first e g =
          let z : rem - 0 ≡ rem = omega arith in
          rw (met_to_suc factor n table t u (drop (suc t) pool) rem w i 0, met_to_zero factor n table t u (drop (suc t) pool) rem w i, factor_none, z) (rw e at g)

      -- and with one tile more
      pub turn_next : {t' rem' i' : ℕ} {b' : Float} {x y z : Totals} (j : ℕ) → t' ≡ suc t → rem' ≡ rem - suc j → b' ≡ running u (suc j) → i' ≡ climb n table t (suc j) i
          → Gathered full (met_to factor n table t u (drop (suc t) pool) rem w i (suc j)) x y
          → Gathered full (met factor n table t' (drop t' pool) rem' (mul binary64 w b') i') y z
          → Gathered full (met_to factor n table t u (drop (suc t) pool) rem w i (suc (suc j))) x z
      unfolding factor
      turn_next j e f g k p q = rw (met_to_suc factor n table t u (drop (suc t) pool) rem w i (suc j)) (gathered_append p (rw (e, f, g, k) at q))

      -- after the last turn
      pub turns_done : {j : ℕ} {a b : Totals} → j ≡ min u rem → Gathered full (met_to factor n table t u (drop (suc t) pool) rem w i (suc j)) a b
          → Gathered full (met factor n table t (drop t pool) rem w i) a b
      turns_done e g = rw (letter_first, met_cons factor n table t u (drop (suc t) pool) rem w i) (rw e at g)

-- ---- one tile to come

-- at any letter
pub walk_at : {r : ℕ} {table : List ℕ} {full : List ℤ} {pool : List ℕ} {t left i : ℕ} (k : ℕ) → k ≤ length pool → Walking r table full pool t 1 left i → Walking r table full pool k 1 (total (drop k pool)) i
walk_at k h walk = record { right = walk.right; bests = walk.bests; letters = h; tiles = refl; short = walk.short }

module _ {r : ℕ} {table : List ℕ} {full : List ℤ} {pool : List ℕ} {u left i : ℕ} (walk : Walking r table full pool u 1 left i) (there : u < length pool) where
  pub tile_place : i * length pool + u < length table
  tile_place = short_place walk.right there walk.short (omega arith)

  pub tile_best : up (length pool) table u i < length full
  unfolding climb
  tile_best = omega (arith, short_none (short_climb walk.right there 1 (omega arith) walk.short) (omega arith), walk.bests)

module _ {full : List ℤ} (n : ℕ) (table : List ℕ) (t : ℕ) (w : Float) (i : ℕ) where
  pub tile_none : {u : ℕ} (a : Totals) → u ≡ 0 → Gathered full (met_tile n table t u w i) a a
  unfolding met_tile
  tile_none a e = rw e (gathered_none a)

  pub tile_some : (u : ℕ) {j : ℕ} {x b : Float} {a c : Totals} → (u ≡ 0 → ⊥) → x ≡ whole (pos 1) → b ≡ div binary64 (mul binary64 x (whole (pos (u - 0)))) (whole (pos (0 + 1))) → j ≡ up n table t i
      → Gathered full ((mul binary64 w b, j) ∷ []) a c → Gathered full (met_tile n table t u w i) a c
  unfolding met_tile factor running
  tile_some zero some e q p g = absurd (some refl)
  tile_some (suc u) some e q p g = rw (p, q, e) at g

-- a letter more, before those that were taken
pub tile_next : {full : List ℤ} (table pool : List ℕ) (w : Float) (i : ℕ) {k u : ℕ} {a b c : Totals} → u ≡ suc k → k < length pool → Gathered full (met factor (length pool) table u (drop u pool) 1 w i) a b
    → Gathered full (met_tile (length pool) table k (get_or pool k 0) w i) b c → Gathered full (met factor (length pool) table k (drop k pool) 1 w i) a c
tile_next table pool w i {k} e h p q =
    rw (drop-cons pool k 0 h, met_tile_lem (length pool) table k (get_or pool k 0) (drop (suc k) pool) w i) (gathered_append (rw e at p) q)

pub tiles_none : {full : List ℤ} (n : ℕ) (table pool : List ℕ) (w : Float) (i : ℕ) (a : Totals) → Gathered full (met factor n table (length pool) (drop (length pool) pool) 1 w i) a a
tiles_none n table pool w i a = rw (drop-length pool, met_short factor n table (length pool) 0 w i) (gathered_none a)
