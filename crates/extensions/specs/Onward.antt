-- The racks that extend a leave are followed by those that extend the next leave. Assumes nothing.
use Rattle.std.specs.Prelude.{◌≡◌, refl, true, drop}
use Rattle.std.proofs.Math.Path.{sym, ap, subst}
use Rattle.std.proofs.Common.{◌∙◌, zero-add, not-suc-le-zero, le_of_suc-le-suc, add-one, arith}
use mathlib.Core.List.{List, [], ◌∷◌}
use Prim.Native.Nat.{ℕ, zero, suc, ◌+◌, ◌-◌, ◌≤◌, ◌<◌}
use Rattle.std.proofs.Math.Decide.{dec_lt}
use Rattle.std.specs.Int.Count.{ones}
use Rattle.std.proofs.Math.ListN.{length, get_or}
use Rattle.std.proofs.Math.Seq.{take-length}
use Rattle.lattice.specs.Answers.{served}
use Rattle.lattice.specs.Served.{facts, starts_small}
use Rattle.binomials.specs.Binomial.{binomial, binomial_self}
use Rattle.lattice.specs.Tally.{total, start, rank_of, add_tile, start_suc}
use Rattle.lattice.specs.Tallies.{start_mono}
use Rattle.lattice.specs.Rank.{rank_from, rank_to, rank_injective, length_add_tile, total_add_tile}
use Rattle.lattice.specs.NextLeave.{lone, length_lone, tail_lone, Follows, follows, follows_size}
use Rattle.lattice.specs.Step.{total_drop}
use Rattle.runs.specs.Runs.{present, word_none, RunAt}
use Rattle.order.specs.Next.{Next, none_after, same_tails}
use Rattle.extensions.specs.Extensions.{stop_of, extension, extension_rank, stop_high, stop_tile, stop_end, total_after}
use Rattle.extensions.specs.Racks.{Leave, Walking, Onward}

-- ---- the tiles from a letter on, with one tile more

tail_more : (t : List ℕ) (j k : ℕ) → j < length t → k ≤ j → total (drop k (add_tile t j)) ≡ suc (total (drop k t))
unfolding add_tile
tail_more t j zero h l = total_add_tile t j h
tail_more [] j (suc k) h l = absurd (not-suc-le-zero h)
tail_more (c ∷ cs) zero (suc k) h l = absurd (not-suc-le-zero l)
tail_more (c ∷ cs) (suc j) (suc k) h l = tail_more cs j k (le_of_suc-le-suc h) (le_of_suc-le-suc l)

tail_same : (t : List ℕ) (j k : ℕ) → j < k → total (drop k (add_tile t j)) ≡ total (drop k t)
unfolding add_tile
tail_same t j zero h = absurd (not-suc-le-zero h)
tail_same [] zero (suc k) h = refl
tail_same [] (suc j) (suc k) h = refl
tail_same (c ∷ cs) zero (suc k) h = refl
tail_same (c ∷ cs) (suc j) (suc k) h = tail_same cs j k (le_of_suc-le-suc h)

-- ---- a tally and the next, of as many tiles

module _ (x u : List ℕ) (some : 0 < length x) (next : Next x u) where
  -- the next is known by what follows x
  is_next : {l v : ℕ} (f : Follows x l v) → f.next ≡ u
  is_next f = rank_injective (length x) f.next u f.letters next.letters (f.rank ∙ sym next.rank)

  -- it has as many tiles, where its rank is below that of more tiles
  pub same_tiles : suc (rank_of (length x) x) < start (length x) (suc (total x)) → total u ≡ total x
  same_tiles h = go (dec_lt (total u) (total x)) (dec_lt (total x) (total u))
    where
      go : Dec (total u < total x) → Dec (total x < total u) → total u ≡ total x
      go (yes a) b =
          let m : start (length x) (suc (total u)) ≤ start (length x) (total x) = start_mono (length x) a in
          absurd (omega (arith, rank_to (length x) u next.letters, rank_from (length x) x, next.rank))
      go (no a) (yes b) =
          let m : start (length x) (suc (total x)) ≤ start (length x) (total u) = start_mono (length x) b in
          absurd (omega (arith, rank_from (length x) u, next.rank))
      go (no a) (no b) = omega arith

  module _ (tiles : total u ≡ total x) where
    -- then x has a letter after the first
    later : 1 < stop_of x
    later = elim (dec_lt 1 (stop_of x)) [ yes h ↦ h | no h ↦ absurd (no_later (omega arith)) ]
      where
        no_later : stop_of x ≤ 1 → ⊥
        no_later h =
            let f = follows_size x some (total_after x 1 h) in
            let t : total u ≡ suc (total x) = ap total (sym (is_next f)) ∙ f.filled zero (omega arith) some in
            omega arith

    -- its last letter, the one before that, and what the next has of the last letter of all
    l : ℕ
    l = stop_of x - 1

    b : ℕ
    b = stop_of x - 1 - 1

    v : ℕ
    v = get_or x (stop_of x - 1) 0 - 1

    there : suc b ≡ l
    unfolding l b
    there = omega (arith, later)

    inside : l < length x
    unfolding l
    inside = omega (arith, later, stop_high x)

    none : total (drop (suc l) x) ≡ 0
    unfolding l
    none = total_after x (suc (stop_of x - 1)) (omega arith)

    tail : total (drop l x) ≡ suc v
    unfolding l v
    tail =
        let s : get_or x (stop_of x - 1) 0 ≡ 0 → ⊥ = stop_tile x later in
        omega (arith, total_drop x (stop_of x - 1) inside, none)

    -- x with one tile more of its last letter
    y : List ℕ
    y = add_tile x l

    y_letters : length y ≡ length x
    unfolding y
    y_letters = length_add_tile x l

    after_x : Follows x l v
    after_x = subst (λ (k : ℕ). Follows x k v) there (follows x b v (omega (arith, there, inside)) (subst (λ (k : ℕ). total (drop (suc k) x) ≡ 0) (sym there) none) (subst (λ (k : ℕ). total (drop k x) ≡ suc v) (sym there) tail))

    after_y : Follows y l (suc v)
    unfolding y
    after_y =
        subst (λ (k : ℕ). Follows y k (suc v)) there
        (follows y b (suc v) (omega (arith, there, inside, y_letters))
        (subst (λ (k : ℕ). total (drop (suc k) y) ≡ 0) (sym there) (tail_same x l (suc l) (omega arith) ∙ none))
        (subst (λ (k : ℕ). total (drop k y) ≡ suc (suc v)) (sym there) (tail_more x l l inside (omega arith) ∙ ap suc tail)))

    -- the next of x with one tile more of the last letter of all
    w : List ℕ
    w = extension u 0

    w_letters : length w ≡ length x
    unfolding w
    w_letters = length_add_tile u (length u - 1 - 0) ∙ next.letters

    tails : (k : ℕ) → k < length w → total (drop k w) ≡ total (drop k after_y.next)
    unfolding w y
    tails k h =
        let n : k < length x = omega (arith, w_letters) in
        let e = next.letters in
        let more : total (drop k w) ≡ suc (total (drop k u)) = tail_more u (length u - 1 - 0) k (omega arith) (omega arith) in
        let of : total (drop k u) ≡ total (drop k after_x.next) = ap (λ (z : List ℕ). total (drop k z)) (sym (is_next after_x)) in
        elim (dec_lt k l) [
          | yes a ↦ more ∙ ap suc (of ∙ after_x.kept k a) ∙ sym (after_y.kept k a ∙ tail_more x l k inside (omega arith))
          | no a ↦ more ∙ ap suc (of ∙ after_x.filled k (omega arith) n) ∙ sym (after_y.filled k (omega arith) (omega (arith, y_letters)))
        ]

    -- THE NEXT RACKS: those that extend the next begin where those that extend x end
    pub first_next : rank_of (length x) (extension u 0) ≡ rank_of (length x) (extension x 0) + (length x - stop_of x) + 1
    unfolding w y l
    first_next =
        let same : w ≡ after_y.next = same_tails w after_y.next (w_letters ∙ sym (after_y.letters ∙ y_letters)) tails in
        let one : rank_of (length x) w ≡ suc (rank_of (length x) y) = subst (λ (n : ℕ). rank_of n w ≡ suc (rank_of n y)) y_letters (ap (rank_of (length y)) same ∙ after_y.rank) in
        let place : length x - 1 - (length x - stop_of x) ≡ stop_of x - 1 = omega (arith, later, stop_high x) in
        let last : rank_of (length x) y ≡ rank_of (length x) (extension x 0) + (length x - stop_of x) = ap (λ (k : ℕ). rank_of (length x) (add_tile x k)) (sym place) ∙ extension_rank x (length x - stop_of x) some (omega arith) in
        omega (arith, one, last)

-- ---- as a step makes it

-- the next has a letter
pub next_there : (x u : List ℕ) {w : ℕ} → Next x u → w ≡ present u → ones w ≡ 0 → ⊥
next_there x u {w} next e o =
    let a = word_none {t = u} {i = length u} {w = w} (omega arith) (e ∙ ap present (sym (take-length u))) o in
    let z : total u ≡ 0 = none_after u zero a.none in
    let one : start (length x) (suc (total u)) ≡ 1 = ap (λ (k : ℕ). start (length x) (suc k)) z ∙ start_suc (length x) 0 ∙ ap (λ (k : ℕ). binomial k (length x)) (zero-add (length x)) ∙ binomial_self (length x) in
    omega (arith, rank_to (length x) u next.letters, next.rank)

-- where the letters end, by the last run
pub stop_run : (t : List ℕ) (stop rest : ℕ) → RunAt t (length t) stop rest → stop ≡ stop_of t
stop_run t stop rest run = sym (stop_end t stop (elim (dec_lt stop (stop_of t)) [ yes h ↦ absurd (past h) | no h ↦ omega arith ]) run.here low)
  where
    low : 1 ≤ stop
    low = let s : stop ≡ 0 → ⊥ = run.some in omega arith

    past : stop < stop_of t → ⊥
    past h = stop_tile t (omega (arith, low)) (run.absent.none (stop_of t - 1) (omega arith) (omega (arith, low, stop_high t)))

pub onward : (t u : List ℕ) (stop first stop' first' : ℕ) → 0 < length t → Next t u → stop' ≡ stop_of u → first' ≡ first + (length t - stop) + 1 → Onward t stop first u stop' first'
onward t u stop first stop' first' some next e f = record { letters = next.letters; next = go }
  where
    go : (r rank : ℕ) → Leave (length t) r rank t stop first → suc rank < start (length t) r → Leave (length t) r (suc rank) u stop' first'
    go r rank l h =
        let at : suc (rank_of (length t) t) < start (length t) (suc (total t)) = subst (λ (k : ℕ). suc (rank_of (length t) t) < start (length t) k) (sym l.tiles) (omega (arith, l.ranked)) in
        let tiles : total u ≡ total t = same_tiles t u some next at in
        record {
          letters = next.letters;
          tiles = ap suc tiles ∙ l.tiles;
          ranked = next.rank ∙ ap suc l.ranked;
          stops = e;
          starts = f ∙ rw (l.stops, l.starts) (sym (first_next t u some next tiles));
        }

-- ---- a walk over the leaves

-- a walk has reached a rank: the tally and its letters, and the leave unless it is past the last
pub record Reached (n r rank : ℕ) (t : List ℕ) (word stop first : ℕ) : Type 0 where
  pub letters : length t ≡ n
  pub has : word ≡ present t
  pub here : rank < start n r → Leave n r rank t stop first

-- there is a leave of one tile less than a rack
pub some_leave : (n r : ℕ) → served n r ≡ true → start n (r - 1) < start n r
some_leave n r e =
    let f = facts n r e in
    let s : suc (r - 1) ≡ r = omega (arith, f.some_tile) in
    subst (λ (k : ℕ). start n (r - 1) < start n k) s (let t = tile n (r - 1) f.some_letter in omega (arith, rank_from n t.0, rank_to n t.0 t.1, ap (start n) t.2, ap (λ (k : ℕ). start n (suc k)) t.2))
  where
    -- all tiles of one letter
    tile : (n s : ℕ) → 1 ≤ n → (t : List ℕ) × (length t ≡ n) × (total t ≡ s)
    tile n s h = (lone n s, length_lone n s, tail_lone n s zero h)

module _ {n r rank word stop first : ℕ} {t : List ℕ} where
  pub reached_first : Leave n r rank t stop first × (word ≡ present t) → Reached n r rank t word stop first
  reached_first l = record { letters = l.0.letters; has = l.1; here = λ h. l.0 }

  module _ (at : Reached n r rank t word stop first) (h : rank < start n r) where
    pub reached_walks : served n r ≡ true → Walking t stop first × (word ≡ present t)
    reached_walks e =
        let f = facts n r e in
        let l = at.here h in
        let w = l.letters in
        let high : stop ≤ length t = rw l.stops (stop_high t) in
        let tiles : total (extension t 0) ≡ r = total_add_tile t (length t - 1 - 0) (omega (arith, f.some_letter)) ∙ l.tiles in
        let below : first < start n (suc r) = subst (λ (k : ℕ). first < start n (suc k)) tiles (omega (arith, l.starts, rank_to n (extension t 0) (length_add_tile t (length t - 1 - 0) ∙ w))) in
        (record { some = omega (arith, f.some_letter); letters = omega (arith, f.letters); tiles = omega (arith, l.tiles, f.tiles); inside = high; room = omega (arith, below, starts_small n r f) }, at.has)

    pub reached_next : {word' stop' first' : ℕ} {u : List ℕ} → Onward t stop first u stop' first' × (word' ≡ present u) → Reached n r (rank + 1) u word' stop' first'
    reached_next {word'} {stop'} {first'} {u} v =
        record {
          letters = v.0.letters ∙ at.letters;
          has = v.1;
          here = λ g. rw (← add-one rank) at (go (omega (arith, add-one rank)));
        }
      where
        go : suc rank < start n r → Leave n r (suc rank) u stop' first'
        go g = subst (λ (m : ℕ). Leave m r (suc rank) u stop' first') at.letters (v.0.next r rank (subst (λ (m : ℕ). Leave m r rank t stop first) (sym at.letters) (at.here h)) (subst (λ (m : ℕ). suc rank < start m r) (sym at.letters) g))
