-- A place for each letter on a way through the multisets in rank order: where a multiset has the letter, its place is the rank with one tile of it less. Ranks keep
-- their order when a tile is added, so a place only goes up, by one at each multiset that has the letter. Assumes nothing.
use Prim.Native.Nat.{ℕ, zero, suc, ◌+◌, ◌-◌, ◌≤◌, ◌<◌}
use Rattle.std.specs.Prelude.{List, ◌⊎◌, ◌≡◌, refl, ℤ, length, set}
use Rattle.std.proofs.Common.{inl, inr, ⊎_elim, sym, ◌∙◌, subst, length-set, get_or-set_same, get_or-set_other, arith}
use Rattle.std.proofs.Math.Path.{ap}
use Rattle.std.proofs.Math.ListN.{get_or}
use Rattle.std.proofs.Math.Seq.{set-set, set-get_or}
use Rattle.std.proofs.Math.Decide.{ℕ_discrete, dec_lt}
use Rattle.laws.specs.Greatest.{Greatest, greatest_taken, greatest_left, greatest_join, same_by}
use Rattle.laws.specs.Integer.{at_ℤ, max_ℤ, max_or}
use Rattle.lattice.specs.Tally.{total, rank_of, add_tile, add_tile_is}
use Rattle.lattice.specs.Rank.{Lex, here, next, Before, rank_to, rank_injective, rank_keeps_order, order_of_rank, length_add_tile, total_add_tile, rank_add_tile}
use Rattle.lattice.specs.Leaves.{leave_at}
use Rattle.runs.specs.Runs.{Absent, RunAt}
use Rattle.order.specs.Next.{Next}
use Rattle.maxima.specs.Judge.{OneLess, Smaller}

-- ---- ranks keep their order when a tile is added

lex_more : {x y : List ℕ} → Lex x y → (t : ℕ) → Lex (add_tile x t) (add_tile y t)
unfolding add_tile
lex_more (here {c} {d} h) zero = here {c = suc c} {d = suc d} (omega arith)
lex_more (here h) (suc t) = here h
lex_more (next h) zero = next h
lex_more (next h) (suc t) = next (lex_more h t)

more_ascends : (n t : ℕ) (x y : List ℕ) → t < n → length x ≡ n → length y ≡ n → rank_of n x < rank_of n y → rank_of n (add_tile x t) < rank_of n (add_tile y t)
more_ascends n t x y h lx ly l =
    let a = total_add_tile x t (rw lx h) in
    let c = total_add_tile y t (rw ly h) in
    let b : Before (add_tile x t) (add_tile y t) = ⊎_elim (λ q. inl (omega (arith, a, c, q))) (λ q. inr (a ∙ ap suc q.0 ∙ sym c, lex_more q.1 t)) (order_of_rank n x y lx ly l) in
    rank_keeps_order n (add_tile x t) (add_tile y t) (length_add_tile x t ∙ lx) (length_add_tile y t ∙ ly) b

-- the count of the letter
there_more : (x : List ℕ) (t : ℕ) → t < length x → get_or (add_tile x t) t 0 ≡ suc (get_or x t 0)
unfolding add_tile
there_more x t h = get_or-set_same x t _ 0 h

-- ---- a letter's place

-- the multisets that rank below p rank below i with one tile more of letter t, the others at i and above
pub record Points (n t i p : ℕ) : Type 0 where
  pub before : (x : List ℕ) → length x ≡ n → rank_of n x < p → rank_of n (add_tile x t) < i
  pub after : (x : List ℕ) → length x ≡ n → p ≤ rank_of n x → i ≤ rank_of n (add_tile x t)

points_first : (n t : ℕ) → Points n t 0 0
points_first n t = record { before = λ x l h. absurd (omega arith); after = λ x l h. omega arith }

module _ {n t p : ℕ} (y : List ℕ) (inside : t < n) (long : length y ≡ n) (now : Points n t (rank_of n y) p) where
  -- a multiset without the letter leaves the place where it is
  points_absent : get_or y t 0 ≡ 0 → Points n t (suc (rank_of n y)) p
  points_absent e = record { before = λ x l h. omega (arith, now.before x l h); after = λ x l h. by x l (now.after x l h) (ℕ_discrete (rank_of n (add_tile x t)) (rank_of n y)) }
    where
      by : (x : List ℕ) → length x ≡ n → rank_of n y ≤ rank_of n (add_tile x t) → Dec (rank_of n (add_tile x t) ≡ rank_of n y) → suc (rank_of n y) ≤ rank_of n (add_tile x t)
      by x l h (yes q) =
          let same = rank_injective n (add_tile x t) y (length_add_tile x t ∙ l) long q in
          absurd (omega (arith, there_more x t (rw l inside), ap (λ (z : List ℕ). get_or z t 0) same, e))
      by x l h (no q) = omega arith

  module _ (x : List ℕ) (is : add_tile x t ≡ y) where
    less_long : length x ≡ n
    less_long = sym (length_add_tile x t) ∙ ap length is ∙ long

    rank_is : rank_of n (add_tile x t) ≡ rank_of n y
    rank_is = ap (rank_of n) is

    -- a multiset with the letter has its place at the rank with one tile of it less
    points_at : p ≡ rank_of n x
    points_at = by (dec_lt (rank_of n x) p) (dec_lt p (rank_of n x))
      where
        by : Dec (rank_of n x < p) → Dec (p < rank_of n x) → p ≡ rank_of n x
        by (yes h) q = absurd (omega (arith, now.before x less_long h, rank_is))
        by (no h) (yes q) =
            let z = leave_at n (suc (total x)) p (omega (arith, rank_to n x less_long)) in
            let e = z.rank in
            absurd (omega (arith, more_ascends n t z.leave x inside z.letters less_long (omega arith), now.after z.leave z.letters (omega arith), rank_is))
        by (no h) (no q) = omega arith

    -- and goes on by one
    points_next : Points n t (suc (rank_of n y)) (p + 1)
    points_next = record { before = λ z l h. by z l h (dec_lt (rank_of n z) p); after = λ z l h. omega (arith, more_ascends n t x z inside less_long l (omega (arith, points_at)), rank_is) }
      where
        by : (z : List ℕ) → length z ≡ n → rank_of n z < p + 1 → Dec (rank_of n z < p) → rank_of n (add_tile z t) < suc (rank_of n y)
        by z l h (yes q) = omega (arith, now.before z l q)
        by z l h (no q) =
            let same = rank_injective n z x l less_long (omega (arith, points_at)) in
            omega (arith, ap (λ (w : List ℕ). rank_of n (add_tile w t)) same, rank_is)

-- ---- the places of all letters, at a multiset y

-- those of the letters from k on are past y
pub record Places (y : List ℕ) (k : ℕ) (at : List ℕ) : Type 0 where
  pub long : length at ≡ length y
  pub todo : (t : ℕ) → t < k → t < length y → Points (length y) t (rank_of (length y) y) (get_or at t 0)
  pub done : (t : ℕ) → k ≤ t → t < length y → Points (length y) t (suc (rank_of (length y) y)) (get_or at t 0)

pub places_first : (y at : List ℕ) → length at ≡ length y → rank_of (length y) y ≡ 0 → ((t : ℕ) → t < length y → get_or at t 0 ≡ 0) → Places y (length y) at
places_first y at l e zeros =
    record {
      long = l;
      todo = λ t h k. rw (e, zeros t k) (points_first (length y) t);
      done = λ t h k. absurd (omega arith);
    }

-- the next multiset
pub places_next : {y y' at : List ℕ} → Next y y' → Places y 0 at → Places y' (length y') at
places_next {y} {y'} {at} s p =
    record {
      long = p.long ∙ sym s.letters;
      todo = λ t h k. rw (s.letters, s.rank) (p.done t (omega arith) (rw s.letters at k));
      done = λ t h k. absurd (omega arith);
    }

-- no letter from j up to k is there: nothing is to do for them
module _ {y : List ℕ} {j k : ℕ} (none : Absent y j k) (le : j ≤ k) where
  pub places_absent : {at : List ℕ} → Places y k at → Places y j at
  places_absent {at} p =
      record {
        long = p.long;
        todo = λ t h l. p.todo t (omega arith) l;
        done = λ t h l. by t h l (dec_lt t k);
      }
    where
      by : (t : ℕ) → j ≤ t → t < length y → Dec (t < k) → Points (length y) t (suc (rank_of (length y) y)) (get_or at t 0)
      by t h l (yes q) = points_absent y l refl (p.todo t q l) (none.none t h q)
      by t h l (no q) = p.done t (omega arith) l

  pub greatest_absent : {m : List ℤ} {own best : ℤ} → Greatest own (Smaller (length y) m y k) best → Greatest own (Smaller (length y) m y j) best
  greatest_absent {m} g = same_by (λ v w. let h = w.1 in (w.0, omega arith, w.2, w.3)) (λ v w. (w.0, by w.0 w.1 w.2 w.3 (dec_lt w.0 k), w.2, w.3)) g
    where
      by : (t : ℕ) → j ≤ t → t < length y → {v : ℤ} → OneLess (length y) m y t v → Dec (t < k) → k ≤ t
      by t h l o (yes q) =
          let long = sym (length_add_tile o.rest t) ∙ ap length o.is in
          absurd (omega (arith, there_more o.rest t (rw long l), ap (λ (z : List ℕ). get_or z t 0) o.is, none.none t h q))
      by t h l o (no q) = omega arith

-- the greater of best and the one value of a set
raised : {best x : ℤ} {P : ℤ → Type 0} → ((v : ℤ) → P v → v ≡ x) → P x → Greatest best P (max_ℤ best x)
raised {best} {x} {P} only h =
    ⊎_elim
    (λ w. subst (Greatest best P) (sym w.1) (greatest_taken only h w.0))
    (λ w. subst (Greatest best P) (sym w.1) (greatest_left only w.0))
    (max_or best x)

-- letter k is there
module _ {y : List ℕ} {k : ℕ} {at : List ℕ} (some : get_or y k 0 ≡ 0 → ⊥) (inside : k < length y) (p : Places y (suc k) at) where
  less : List ℕ
  less = set y k (get_or y k 0 - 1)

  is_less : add_tile less k ≡ y
  unfolding less
  is_less =
      let e : suc (get_or y k 0 - 1) ≡ get_or y k 0 = omega (arith, some) in
      add_tile_is (set y k (get_or y k 0 - 1)) k ∙ set-set y k _ _ ∙ ap (set y k) (ap suc (get_or-set_same y k _ 0 inside) ∙ e) ∙ set-get_or y k 0

  place : Points (length y) k (rank_of (length y) y) (get_or at k 0)
  place = p.todo k (omega arith) inside

  place_below : get_or at k 0 < rank_of (length y) y
  place_below =
      let l = less_long y inside refl place less is_less in
      omega (arith, points_at y inside refl place less is_less, rank_add_tile (length y) less k l inside, ap (rank_of (length y)) is_less)

  places_more : Places y k (set at k (get_or at k 0 + 1))
  places_more =
      record {
        long = length-set at k _ ∙ p.long;
        todo = λ t h l. rw (get_or-set_other at k t (get_or at k 0 + 1) 0 (λ e. omega arith)) (p.todo t (omega arith) l);
        done = λ t h l. by t h l (ℕ_discrete t k);
      }
    where
      by : (t : ℕ) → k ≤ t → t < length y → Dec (t ≡ k) → Points (length y) t (suc (rank_of (length y) y)) (get_or (set at k (get_or at k 0 + 1)) t 0)
      by t h l (yes e) = rw (e, get_or-set_same at k (get_or at k 0 + 1) 0 (rw p.long inside)) (points_next y inside refl place less is_less)
      by t h l (no e) = rw (get_or-set_other at k t (get_or at k 0 + 1) 0 e) (p.done t (omega arith) l)

  greatest_more : {m : List ℤ} {own best : ℤ} → Greatest own (Smaller (length y) m y (suc k)) best → Greatest own (Smaller (length y) m y k) (max_ℤ best (at_ℤ m (get_or at k 0)))
  greatest_more {m} {own} {best} g = greatest_join split left right g (raised only there)
    where
      only : (v : ℤ) → OneLess (length y) m y k v → v ≡ at_ℤ m (get_or at k 0)
      only v o = o.value ∙ ap (at_ℤ m) (sym (points_at y inside refl place o.rest o.is))

      there : OneLess (length y) m y k (at_ℤ m (get_or at k 0))
      there = record { rest = less; is = is_less; value = ap (at_ℤ m) (points_at y inside refl place less is_less) }

      split : (v : ℤ) → Smaller (length y) m y k v → Smaller (length y) m y (suc k) v ⊎ OneLess (length y) m y k v
      split v w = by (ℕ_discrete w.0 k)
        where
          by : Dec (w.0 ≡ k) → Smaller (length y) m y (suc k) v ⊎ OneLess (length y) m y k v
          by (yes e) = inr (subst (λ (t : ℕ). OneLess (length y) m y t v) e w.3)
          by (no e) = let h = w.1 in inl (w.0, omega arith, w.2, w.3)

      left : (v : ℤ) → Smaller (length y) m y (suc k) v → Smaller (length y) m y k v
      left v w = let h = w.1 in (w.0, omega arith, w.2, w.3)

      right : (v : ℤ) → OneLess (length y) m y k v → Smaller (length y) m y k v
      right v o = (k, omega arith, inside, o)

-- the last letter that is there among the first end: its place is the index with one tile of it less, and goes on
module _ {y at : List ℕ} {end stop rest : ℕ} (run : RunAt y end stop rest) (inside : end ≤ length y) (p : Places y end at) where
  is_suc : suc (stop - 1) ≡ stop
  is_suc = omega (arith, run.some)

  absent : Absent y (suc (stop - 1)) end
  absent = rw is_suc run.absent

  le : suc (stop - 1) ≤ end
  le = omega (arith, is_suc, run.inside)

  pub run_inside : stop - 1 < length y
  run_inside = omega (arith, le)

  pub run_below : get_or at (stop - 1) 0 < rank_of (length y) y
  run_below = place_below run.here run_inside (places_absent absent le p)

  pub run_places : Places y (stop - 1) (set at (stop - 1) (get_or at (stop - 1) 0 + 1))
  run_places = places_more run.here run_inside (places_absent absent le p)

  pub run_greatest : {m : List ℤ} {own best : ℤ} → Greatest own (Smaller (length y) m y end) best
      → Greatest own (Smaller (length y) m y (stop - 1)) (max_ℤ best (at_ℤ m (get_or at (stop - 1) 0)))
  run_greatest g = greatest_more run.here run_inside (places_absent absent le p) (greatest_absent absent le g)
