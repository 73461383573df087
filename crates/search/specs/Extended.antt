-- The splits of a rack with one tile more than a leave: a split of the leave, with that tile on the one side or on the other. The tile is of
-- the leave's last letter or of a later one, and the ranks of a part with that tile follow each other as the racks' do. Assumes nothing.
use Rattle.std.specs.Prelude.{◌≡◌, refl, Bool, true, false, cond, ◌&&◌, ◌⊎◌, ℕ, zero, suc, ◌+◌, ◌-◌, ◌≤◌, ◌<◌, ℤ, pos, ◌+ℤ◌, length, get_or, take, drop}
use Rattle.std.proofs.Common.{sym, ap₂, ◌∙◌, subst, inl, inr, ⊎_elim, le_refl, zero-add, arith, length-drop, length-take-le}
use Rattle.std.proofs.Math.Path.{ap, transport}
use mathlib.Core.List.{List, [], ◌∷◌, ◌++◌}
use Rattle.std.proofs.Math.Decide.{dec_le}
use Rattle.std.proofs.Math.Seq.{split_at}
use Rattle.laws.specs.Greatest.{Below, Greatest, same_by}
use Rattle.laws.specs.Integer.{at_ℤ, parts-≡, +ℤ-parts}
use Rattle.binomials.specs.Binomial.{binomial, symmetric, binomial_one, binomial_self}
use Rattle.lattice.specs.Tally.{total, start, within, rank_of, add_tile, Within, minus, total_cons, within_nil, rank_is}
use Rattle.lattice.specs.Parts.{Within-refl, part_length, rest_within}
use Rattle.lattice.specs.Rank.{length_add_tile, total_add_tile}
use Rattle.lattice.specs.Tallies.{count, within_skip}
use Rattle.lattice.specs.Step.{step, step_last, step_more, step_none, within_step, total_append, within_append}
use Rattle.whole.specs.Mean.{unplayable}
use Rattle.extensions.specs.Extensions.{stop_of, extension, stop_low, stop_high, total_after}
use Rattle.search.specs.Counts.{at_most, at_most_mono, count_is, step_counts}
use Rattle.search.specs.Split.{best_split, small, guarded, Bounded, within_on, worth_at, worth_on, Worths}
use Rattle.search.specs.Best.{worth_on_none, rest_rest, best_found, found_bounded}
use Rattle.search.specs.Raised.{Raised, Cleared, RunReady, raised_by}

-- ---- parts of a tally with one tile more

add_here : (c : ℕ) (cs : List ℕ) → add_tile (c ∷ cs) 0 ≡ suc c ∷ cs
unfolding add_tile
add_here c cs = refl

add_there : (c : ℕ) (cs : List ℕ) (u : ℕ) → add_tile (c ∷ cs) (suc u) ≡ c ∷ add_tile cs u
unfolding add_tile
add_there c cs u = refl

within_add : (p t : List ℕ) (u : ℕ) → Within p t → Within p (add_tile t u)
unfolding add_tile
within_add [] [] u h = tt
within_add [] (d ∷ ds) u h = absurd h
within_add (x ∷ xs) [] u h = absurd h
within_add (x ∷ xs) (d ∷ ds) zero h = (omega (arith, h.0), h.1)
within_add (x ∷ xs) (d ∷ ds) (suc u) h = (h.0, within_add xs ds u h.1)

add_within : (p t : List ℕ) (u : ℕ) → Within p t → Within (add_tile p u) (add_tile t u)
unfolding add_tile
add_within [] [] u h = tt
add_within [] (d ∷ ds) u h = absurd h
add_within (x ∷ xs) [] u h = absurd h
add_within (x ∷ xs) (d ∷ ds) zero h = (omega (arith, h.0), h.1)
add_within (x ∷ xs) (d ∷ ds) (suc u) h = (h.0, add_within xs ds u h.1)

-- the tile is kept
minus_add : (p t : List ℕ) (u : ℕ) → Within p t → minus (add_tile t u) p ≡ add_tile (minus t p) u
unfolding add_tile minus
minus_add [] [] u h = refl
minus_add [] (d ∷ ds) u h = absurd h
minus_add (x ∷ xs) [] u h = absurd h
minus_add (x ∷ xs) (d ∷ ds) zero h =
    let e : suc d - x ≡ suc (d - x) = omega (arith, h.0) in
    ap {B = List ℕ} (λ y. y ∷ minus ds xs) e
minus_add (x ∷ xs) (d ∷ ds) (suc u) h = ap (◌∷◌ (d - x)) (minus_add xs ds u h.1)

-- the tile is played
minus_both : (p t : List ℕ) (u : ℕ) → Within p t → minus (add_tile t u) (add_tile p u) ≡ minus t p
unfolding add_tile minus
minus_both [] [] u h = refl
minus_both [] (d ∷ ds) u h = absurd h
minus_both (x ∷ xs) [] u h = absurd h
minus_both (x ∷ xs) (d ∷ ds) zero h =
    let e : suc d - suc x ≡ d - x = omega arith in
    ap {B = List ℕ} (λ y. y ∷ minus ds xs) e
minus_both (x ∷ xs) (d ∷ ds) (suc u) h = ap (◌∷◌ (d - x)) (minus_both xs ds u h.1)

-- a part has the tile, or does not
part_cases : (p t : List ℕ) (u : ℕ) → Within p (add_tile t u) → Within p t ⊎ ((q : List ℕ) × Within q t × (p ≡ add_tile q u))
unfolding add_tile
part_cases [] [] u h = inl tt
part_cases [] (d ∷ ds) zero h = absurd h
part_cases [] (d ∷ ds) (suc u) h = absurd h
part_cases (x ∷ xs) [] u h = absurd h
part_cases (x ∷ xs) (d ∷ ds) zero h = elim (dec_le x d) [ yes l ↦ inl (l, h.1) | no l ↦ inr (d ∷ xs, (le_refl d, h.1), ap {B = List ℕ} (λ y. y ∷ xs) (omega (arith, h.0))) ]
part_cases (x ∷ xs) (d ∷ ds) (suc u) h =
    ⊎_elim (λ w. inl (h.0, w)) (λ r. inr (x ∷ r.0, (h.0, r.1), ap (◌∷◌ x) r.2)) (part_cases xs ds u h.1)

-- ---- the splits of the rack by those of the leave

guarded_comm : (x y : ℤ) → guarded x y ≡ guarded y x
unfolding guarded
guarded_comm x y = go (small x) (small y)
  where
    sums : x +ℤ y ≡ y +ℤ x
    sums = parts-≡ (x +ℤ y) (y +ℤ x) (omega (arith, +ℤ-parts x y, +ℤ-parts y x))

    go : (p q : Bool) → cond (p && q) (x +ℤ y) (pos 2147483647) ≡ cond (q && p) (y +ℤ x) (pos 2147483647)
    go true true = sums
    go true false = refl
    go false true = refl
    go false false = refl

-- v is what it is worth to split t, with a tile more of letter u on a's side
pub record Halves (a b : List ℤ) (n : ℕ) (t : List ℕ) (u : ℕ) (v : ℤ) : Type 0 where
  pub part : List ℕ
  pub inside : Within part t
  pub is : guarded (at_ℤ a (rank_of n (add_tile part u))) (at_ℤ b (rank_of n (minus t part))) ≡ v

module _ (a b : List ℤ) (n : ℕ) (t : List ℕ) (u : ℕ) (v : ℤ) where
  -- the tile is on one side or on the other
  halves_from : Worths a b n (add_tile t u) 0 0 0 0 0 v → Halves a b n t u v ⊎ Halves b a n t u v
  halves_from w = go w.part (part_cases w.part t u w.inside) (sym (worth_on_none a b n (add_tile t u) w.part) ∙ w.is)
    where
      go : (p : List ℕ) → Within p t ⊎ ((q : List ℕ) × Within q t × (p ≡ add_tile q u)) → guarded (at_ℤ a (rank_of n p)) (at_ℤ b (rank_of n (minus (add_tile t u) p))) ≡ v → Halves a b n t u v ⊎ Halves b a n t u v
      go p (inl h) e =
          inr (record {
            part = minus t p;
            inside = rest_within p t h;
            is = (λ i. guarded (at_ℤ b (rank_of n (sym (minus_add p t u h) i))) (at_ℤ a (rank_of n (rest_rest p t h i)))) ∙ guarded_comm _ _ ∙ e;
          })
      go p (inr r) e =
          inl (record {
            part = r.0;
            inside = r.1;
            is = (λ i. guarded (at_ℤ a (rank_of n (sym r.2 i))) (at_ℤ b (rank_of n ((sym (minus_both r.0 t u r.1) ∙ ap (minus (add_tile t u)) (sym r.2)) i)))) ∙ e;
          })

  halves_played : Halves a b n t u v → Worths a b n (add_tile t u) 0 0 0 0 0 v
  halves_played h =
      record {
        part = add_tile h.part u;
        inside = add_within h.part t u h.inside;
        is = worth_on_none a b n (add_tile t u) (add_tile h.part u) ∙ (λ i. guarded (at_ℤ a (rank_of n (add_tile h.part u))) (at_ℤ b (rank_of n (minus_both h.part t u h.inside i)))) ∙ h.is;
      }

  halves_kept : Halves b a n t u v → Worths a b n (add_tile t u) 0 0 0 0 0 v
  halves_kept h =
      let k = minus t h.part in
      let l = rest_within h.part t h.inside in
      record {
        part = k;
        inside = within_add k t u l;
        is =
            worth_on_none a b n (add_tile t u) k
            ∙ (λ i. guarded (at_ℤ a (rank_of n k)) (at_ℤ b (rank_of n ((minus_add k t u l ∙ ap (λ (q : List ℕ). add_tile q u) (rest_rest h.part t h.inside)) i))))
            ∙ guarded_comm _ _ ∙ h.is;
      }

-- ---- a tally in two: the letters before its last one, and that with those after it, which are not there

within_both : (p t q s : List ℕ) → Within p t → Within q s → Within (p ++ q) (t ++ s)
within_both [] [] q s h k = k
within_both [] (d ∷ ds) q s h k = absurd h
within_both (x ∷ xs) [] q s h k = absurd h
within_both (x ∷ xs) (d ∷ ds) q s h k = (h.0, within_both xs ds q s h.1 k)

within_parts : (p t s : List ℕ) → Within p (t ++ s) → (q r : List ℕ) × Within q t × Within r s × (p ≡ q ++ r)
within_parts p [] s h = ([], p, tt, h, refl)
within_parts [] (d ∷ ds) s h = absurd h
within_parts (x ∷ xs) (d ∷ ds) s h =
    let r = within_parts xs ds s h.1 in
    (x ∷ r.0, r.1, (h.0, r.2), r.3, ap (◌∷◌ x) r.4)

minus_append : (p t q s : List ℕ) → Within p t → minus (t ++ s) (p ++ q) ≡ minus t p ++ minus s q
unfolding minus
minus_append [] [] q s h = refl
minus_append [] (d ∷ ds) q s h = absurd h
minus_append (x ∷ xs) [] q s h = absurd h
minus_append (x ∷ xs) (d ∷ ds) q s h = ap (◌∷◌ (d - x)) (minus_append xs ds q s h.1)

-- a part of a tally without tiles is that tally, and so is the rest
within_none : (p t : List ℕ) → Within p t → total t ≡ 0 → p ≡ t
within_none [] [] h e = refl
within_none [] (d ∷ ds) h e = absurd h
within_none (x ∷ xs) [] h e = absurd h
within_none (x ∷ xs) (d ∷ ds) h e =
    let s = total_cons d ds in
    let k : x ≡ d = omega (arith, h.0) in
    ap₂ {C = List ℕ} (λ y ys. y ∷ ys) k (within_none xs ds h.1 (omega arith))

minus_none : (t : List ℕ) → total t ≡ 0 → minus t t ≡ t
unfolding minus
minus_none [] e = refl
minus_none (d ∷ ds) e =
    let s = total_cons d ds in
    let k : d - d ≡ d = omega arith in
    ap₂ {C = List ℕ} (λ y ys. y ∷ ys) k (minus_none ds (omega arith))

-- its rank within its size is 0
first_none : (t : List ℕ) → total t ≡ 0 → within t ≡ 0
first_none [] e = within_nil
first_none (d ∷ ds) e =
    let s = total_cons d ds in
    let k : d ≡ 0 = omega arith in
    ap (λ (x : ℕ). within (x ∷ ds)) k ∙ within_skip ds ∙ first_none ds (omega arith)

add_append : (p q : List ℕ) (k : ℕ) → add_tile (p ++ q) (length p + k) ≡ p ++ add_tile q k
add_append [] q k = ap (add_tile q) (zero-add k)
add_append (x ∷ xs) q k =
    let e : suc (length xs) + k ≡ suc (length xs + k) = omega arith in
    ap (add_tile (x ∷ (xs ++ q))) e ∙ add_there x (xs ++ q) (length xs + k) ∙ ap (◌∷◌ x) (add_append xs q k)

rank_append : (n : ℕ) (p q : List ℕ) → rank_of n (p ++ q) ≡ start n (total p + total q) + within_on p (length q) (total q) (within q)
unfolding within_on
rank_append n p q = rw (rank_is, total_append, within_append)

-- one letter with k tiles, and the letters after it, which are not there
rank_alone : (k : ℕ) (zs : List ℕ) → total zs ≡ 0 → within (k ∷ zs) ≡ step (length zs) k k
rank_alone k zs e =
    let a : k + total zs ≡ k = omega arith in
    omega (arith, within_step k zs, ap (λ (s : ℕ). step (length zs) s k) a, first_none zs e)

choose_one : (p : ℕ) → binomial (1 + p) p ≡ suc p
choose_one p = sym (symmetric 1 p) ∙ binomial_one (1 + p) ∙ omega arith

-- with one tile more of that letter or of a later one
rank_extended : (k : ℕ) (zs : List ℕ) (j : ℕ) → total zs ≡ 0 → j ≤ length zs → within (add_tile (k ∷ zs) (length zs - j)) ≡ step (length zs) (k + 1) k + j
rank_extended k [] j e h =
    let z : 0 - j ≡ 0 = omega arith in
    omega (arith, ap (λ (u : ℕ). within (add_tile (k ∷ []) u)) z, ap within (add_here k []), rank_alone (suc k) [] e, step_last (suc k) (suc k), step_last (k + 1) k)
rank_extended k (d ∷ ds) j e h = elim (dec_le j (length ds)) [ yes l ↦ later l (rank_extended d ds j (omega (arith, total_cons d ds)) l) | no l ↦ here (omega arith) ]
  where
    d_none : d ≡ 0
    d_none = omega (arith, total_cons d ds)

    here : j ≡ suc (length ds) → within (add_tile (k ∷ d ∷ ds) (suc (length ds) - j)) ≡ step (suc (length ds)) (k + 1) k + j
    here q =
        let p = length ds in
        let z : suc p - j ≡ 0 = omega arith in
        let a : suc k - k + p ≡ 1 + p = omega arith in
        let b : suc k ≡ k + 1 = omega arith in
        omega (arith, ap (λ (u : ℕ). within (add_tile (k ∷ d ∷ ds) u)) z, ap within (add_here k (d ∷ ds)), rank_alone (suc k) (d ∷ ds) e, step_more p (suc k) k (omega arith), ap (λ (x : ℕ). binomial x p) a, choose_one p, ap (λ (x : ℕ). step (suc p) x k) b)

    later : j ≤ length ds → within (add_tile (d ∷ ds) (length ds - j)) ≡ step (length ds) (d + 1) d + j → within (add_tile (k ∷ d ∷ ds) (suc (length ds) - j)) ≡ step (suc (length ds)) (k + 1) k + j
    later l ih =
        let u = length ds - j in
        let x = add_tile (d ∷ ds) u in
        let z : suc (length ds) - j ≡ suc u = omega arith in
        let a : length x ≡ suc (length ds) = length_add_tile (d ∷ ds) u in
        let b : total x ≡ 1 = omega (arith, total_add_tile (d ∷ ds) u (omega arith)) in
        let f : k + total x ≡ k + 1 = omega arith in
        let g : step (length ds) (d + 1) d ≡ 0 = ap (step (length ds) (d + 1)) d_none ∙ step_none (length ds) (d + 1) in
        omega (arith, ap (λ (y : ℕ). within (add_tile (k ∷ d ∷ ds) y)) z, ap within (add_there k (d ∷ ds) u), within_step k x, ap₂ (λ (y w : ℕ). step y w k) a f)

-- the values of the walk over the letters of T, where a letter with c tiles stands after them and x of those are on a's side, with one tile more
-- of that letter or of one of the m letters after it: that which has j letters after it
abbrev pub Side : List ℤ → List ℤ → ℕ → List ℕ → ℕ → ℕ → ℕ → ℕ → ℤ → Type 0
Side a b n T m c j x = Worths a b n T (suc m) (x + 1) (step m (x + 1) x + j) (c - x) (step m (c - x) (c - x))

module _ (a b : List ℤ) (n : ℕ) (T zs : List ℕ) (c j : ℕ) (none : total zs ≡ 0) (few : j ≤ length zs) where
  -- the tally, and the letter of the tile
  abbrev whole : List ℕ
  whole = T ++ (c ∷ zs)

  abbrev place : ℕ
  place = length T + (length zs - j)

  module _ (q : List ℕ) (x : ℕ) (h : Within q T) (l : x ≤ c) where
    with_tile : rank_of n (add_tile (q ++ (x ∷ zs)) place) ≡ start n (total q + (x + 1)) + within_on q (suc (length zs)) (x + 1) (step (length zs) (x + 1) x + j)
    with_tile =
        let k = length zs - j in
        let r = add_tile (x ∷ zs) k in
        let e : place ≡ length q + k = omega (arith, part_length q T h) in
        let s : total r ≡ x + 1 = omega (arith, total_add_tile (x ∷ zs) k (omega arith), total_cons x zs) in
        let m : length r ≡ suc (length zs) = length_add_tile (x ∷ zs) k in
        ap (λ (u : ℕ). rank_of n (add_tile (q ++ (x ∷ zs)) u)) e ∙ ap (rank_of n) (add_append q (x ∷ zs) k) ∙ rank_append n q r
        ∙ (λ i. start n (total q + s i) + within_on q (m i) (s i) (rank_extended x zs j none few i))

    without : rank_of n (minus whole (q ++ (x ∷ zs))) ≡ start n (total (minus T q) + (c - x)) + within_on (minus T q) (suc (length zs)) (c - x) (step (length zs) (c - x) (c - x))
    unfolding minus
    without =
        let k = minus T q in
        let s : total ((c - x) ∷ zs) ≡ c - x = omega (arith, total_cons (c - x) zs) in
        ap (rank_of n) (minus_append q T (x ∷ zs) (c ∷ zs) h ∙ ap (λ (z : List ℕ). k ++ ((c - x) ∷ z)) (minus_none zs none)) ∙ rank_append n k ((c - x) ∷ zs)
        ∙ (λ i. start n (total k + s i) + within_on k (suc (length zs)) (s i) (rank_alone (c - x) zs none i))

    side_is : worth_on a b n T (suc (length zs)) (x + 1) (step (length zs) (x + 1) x + j) (c - x) (step (length zs) (c - x) (c - x)) q
        ≡ guarded (at_ℤ a (rank_of n (add_tile (q ++ (x ∷ zs)) place))) (at_ℤ b (rank_of n (minus whole (q ++ (x ∷ zs)))))
    unfolding worth_on worth_at
    side_is = λ i. guarded (at_ℤ a (sym with_tile i)) (at_ℤ b (sym without i))

  -- the turns over the letter's tiles make all splits
  sides_to : (v : ℤ) → Below (Side a b n T (length zs) c j) (suc c) v → Halves a b n whole place v
  sides_to v (x, l, w) =
      let m : x ≤ c = omega arith in
      record {
        part = w.part ++ (x ∷ zs);
        inside = within_both w.part T (x ∷ zs) (c ∷ zs) w.inside (m, Within-refl zs);
        is = sym (side_is w.part x w.inside m) ∙ w.is;
      }

  sides_from : (v : ℤ) → Halves a b n whole place v → Below (Side a b n T (length zs) c j) (suc c) v
  sides_from v h = go (within_parts h.part T (c ∷ zs) h.inside)
    where
      go : (q r : List ℕ) × Within q T × Within r (c ∷ zs) × (h.part ≡ q ++ r) → Below (Side a b n T (length zs) c j) (suc c) v
      go (q, [], hq, hr, e) = absurd hr
      go (q, x ∷ xs, hq, hr, e) =
          let l : x < suc c = omega (arith, hr.0) in
          let p : h.part ≡ q ++ (x ∷ zs) = e ∙ ap (λ (y : List ℕ). q ++ (x ∷ y)) (within_none xs zs hr.1 none) in (
            x,
            l,
            record {
              part = q;
              inside = hq;
              is = side_is q x hq hr.0 ∙ (λ i. guarded (at_ℤ a (rank_of n (add_tile (sym p i) place))) (at_ℤ b (rank_of n (minus whole (sym p i))))) ∙ h.is;
            },
          )

-- the tile on one side or on the other
abbrev pub Both : List ℤ → List ℤ → ℕ → List ℕ → ℕ → ℕ → ℕ → ℕ → ℤ → Type 0
Both a b n T m c j x v = Side a b n T m c j x v ⊎ Side b a n T m c j x v

module _ (a b : List ℤ) (n : ℕ) (T zs : List ℕ) (c j : ℕ) (none : total zs ≡ 0) (few : j ≤ length zs) where
  both_to : (v : ℤ) → Below (Both a b n T (length zs) c j) (suc c) v → Worths a b n (add_tile (T ++ (c ∷ zs)) (length T + (length zs - j))) 0 0 0 0 0 v
  both_to v (x, l, inl w) = halves_played a b n (T ++ (c ∷ zs)) (length T + (length zs - j)) v (sides_to a b n T zs c j none few v (x, l, w))
  both_to v (x, l, inr w) = halves_kept a b n (T ++ (c ∷ zs)) (length T + (length zs - j)) v (sides_to b a n T zs c j none few v (x, l, w))

  both_from : (v : ℤ) → Worths a b n (add_tile (T ++ (c ∷ zs)) (length T + (length zs - j))) 0 0 0 0 0 v → Below (Both a b n T (length zs) c j) (suc c) v
  both_from v w =
      ⊎_elim
      (λ h. let s = sides_from a b n T zs c j none few v h in (s.0, s.1, inl s.2))
      (λ h. let s = sides_from b a n T zs c j none few v h in (s.0, s.1, inr s.2))
      (halves_from a b n (T ++ (c ∷ zs)) (length T + (length zs - j)) v w)

at_none : (m : ℕ) → at_most m 0 ≡ 1
unfolding at_most
at_none m = ap (λ (k : ℕ). binomial k m) (zero-add m) ∙ binomial_self m

at_one : (m : ℕ) → at_most m 1 ≡ suc m
unfolding at_most
at_one m = choose_one m

-- what the search of a leave's extensions asks: room in the tables for one tile more, and an entry of the run for each of them
pub record Extending (a b : List ℤ) (t : List ℕ) (stop size : ℕ) : Type 0 where
  pub few : length t ≤ 64
  pub letters : 0 < length t
  pub tiles : suc (total t) ≤ 15
  pub stops : stop ≡ stop_of t
  pub entries : size ≡ suc (length t - stop)
  pub in_a : at_most (length t) (suc (total t)) ≤ length a
  pub in_b : at_most (length t) (suc (total t)) ≤ length b
  pub a_bound : Bounded 536870911 a
  pub b_bound : Bounded 536870911 b

pub exchanged : {a b : List ℤ} {t : List ℕ} {stop size : ℕ} → Extending a b t stop size → Extending b a t stop size
exchanged e = record { few = e.few; letters = e.letters; tiles = e.tiles; stops = e.stops; entries = e.entries; in_a = e.in_b; in_b = e.in_a; a_bound = e.b_bound; b_bound = e.a_bound }

-- the worths of the splits of the rack of entry j, where the tile's side has x of the tiles of the leave's last letter
abbrev pub Counted : List ℤ → List ℤ → List ℕ → ℕ → ℕ → ℕ → ℤ → Type 0
Counted a b t stop = Both a b (length t) (take (stop - 1) t) (length t - stop) (get_or t (stop - 1) 0)

module _ {a b : List ℤ} {t : List ℕ} {stop size : ℕ} (e : Extending a b t stop size) where
  pub stop_some : 0 < stop
  stop_some = omega (arith, e.stops, stop_low t e.letters)

  pub stop_inside : stop ≤ length t
  stop_inside = omega (arith, e.stops, stop_high t)

  -- the leave in two
  in_two : t ≡ take (stop - 1) t ++ (get_or t (stop - 1) 0 ∷ drop stop t)
  in_two =
      let k : suc (stop - 1) ≡ stop = omega (arith, stop_some) in
      split_at t (stop - 1) 0 (omega (arith, stop_inside, stop_some)) ∙ ap (λ (i : ℕ). take (stop - 1) t ++ (get_or t (stop - 1) 0 ∷ drop i t)) k

  none_after : total (drop stop t) ≡ 0
  none_after = total_after t stop (omega (arith, e.stops))

  -- what is found for an entry is the best split of its rack
  pub extended_best : (j : ℕ) {r : ℤ} → j < size → Greatest unplayable (Below (Counted a b t stop j) (suc (get_or t (stop - 1) 0))) r → r ≡ best_split a b (length t) (extension t j)
  extended_best j {r} h g =
      let n = length t in
      let T = take (stop - 1) t in
      let c = get_or t (stop - 1) 0 in
      let zs = drop stop t in
      let m : length zs ≡ n - stop = length-drop stop t in
      let l : length T ≡ stop - 1 = length-take-le (stop - 1) t (omega (arith, stop_inside)) in
      let few : j ≤ length zs = omega (arith, e.entries) in
      let u : length T + (length zs - j) ≡ n - 1 - j = omega (arith, e.entries, stop_some, stop_inside) in
      let R = add_tile (T ++ (c ∷ zs)) (length T + (length zs - j)) in
      let g' : Greatest unplayable (Below (Both a b n T (length zs) c j) (suc c)) r = subst (λ (k : ℕ). Greatest unplayable (Below (Both a b n T k c j) (suc c)) r) (sym m) g in
      best_found a b n R (same_by (both_to a b n T zs c j none_after few) (both_from a b n T zs c j none_after few) g')
      ∙ found_bounded a b n R e.a_bound e.b_bound
      ∙ (λ i. best_split a b n (add_tile (sym in_two i) (u i)))

  -- what each call of the walk asks, with x of the last letter's tiles on a's side
  pub side_ready : (x : ℕ) {w y v k : ℕ} → x ≤ get_or t (stop - 1) 0 → w ≡ step (length t - stop) (x + 1) x → y ≡ get_or t (stop - 1) 0 - x → v ≡ step (length t - stop) y y → k ≡ size → RunReady a b t (stop - 1) (x + 1) w y v k
  side_ready x {w} {y} {v} {k = len} h p q s same =
      let n = length t in
      let m = n - stop in
      let k : n - (stop - 1) ≡ suc m = omega (arith, stop_some, stop_inside) in
      let T = take (stop - 1) t in
      let c = get_or t (stop - 1) 0 in
      let tiles : total T + (x + 1) + y ≡ suc (total t) = omega (arith, ap total in_two, total_append T (c ∷ drop stop t), total_cons c (drop stop t), none_after) in
      let one : x + 1 - x ≡ 1 = omega arith in
      let less : 1 ≤ x + 1 = omega arith in
      let zero' : y - y ≡ 0 = omega arith in
      let low : 0 ≤ y = omega arith in
      record {
        last = record {
          letters = omega (arith, stop_inside);
          few = e.few;
          tiles = omega (arith, e.tiles);
          played = subst (λ (i : ℕ). w + (len - 1) < count i (x + 1)) (sym k) (omega (arith, e.entries, count_is m (x + 1), step_counts m (x + 1) x, ap (at_most m) one, at_one m, at_most_mono (le_refl m) less));
          kept = subst (λ (i : ℕ). v < count i y) (sym k) (omega (arith, count_is m y, step_counts m y y, ap (at_most m) zero', at_none m, at_most_mono (le_refl m) low));
          in_sheet = subst (λ (i : ℕ). at_most n i ≤ length a) (sym tiles) e.in_a;
          in_leave = subst (λ (i : ℕ). at_most n i ≤ length b) (sym tiles) e.in_b;
        };
        entries = omega (arith, e.entries);
        a_bound = e.a_bound;
        b_bound = e.b_bound;
      }

  -- what it gives
  pub side_turn : (x : ℕ) {w y v : ℕ} {entry exit : List ℤ} → w ≡ step (length t - stop) (x + 1) x → y ≡ get_or t (stop - 1) 0 - x → v ≡ step (length t - stop) y y
      → Raised (λ j. Worths a b (length t) (take (stop - 1) t) (length t - (stop - 1)) (x + 1) (w + j) y v) entry exit
      → Raised (λ j. Side a b (length t) (take (stop - 1) t) (length t - stop) (get_or t (stop - 1) 0) j x) entry exit
  side_turn x {w} {y} {v} p q s r =
      let m = length t - stop in
      let k : length t - (stop - 1) ≡ suc m = omega (arith, stop_some, stop_inside) in
      let z : v ≡ step m (get_or t (stop - 1) 0 - x) (get_or t (stop - 1) 0 - x) = s ∙ (λ i. step m (q i) (q i)) in
      raised_by (λ j h e f g. transport (λ i. Greatest e (Worths a b (length t) (take (stop - 1) t) (k i) (x + 1) (p i + j) (q i) (z i)) f) g) r

-- what it leaves
pub record Extended (a b : List ℤ) (t : List ℕ) (entry exit : List ℤ) : Type 0 where
  pub size : length exit ≡ length entry
  pub each : (j : ℕ) → j < length entry → at_ℤ exit j ≡ best_split a b (length t) (extension t j)

pub extended_all : {a b : List ℤ} {t : List ℕ} {stop : ℕ} {entry run exit : List ℤ} → Extending a b t stop (length entry) → Cleared entry run → Raised (λ j. Below (Counted a b t stop j) (suc (get_or t (stop - 1) 0))) run exit → Extended a b t entry exit
extended_all {a} {b} {t} {stop} {entry} {run} {exit} e c r =
    record { size = r.size ∙ c.size; each = λ j h. extended_best e j h (subst (λ (v : ℤ). Greatest v (Below (Counted a b t stop j) (suc (get_or t (stop - 1) 0))) (at_ℤ exit j)) (c.each j h) (r.each j (inside j h))) }
  where
    inside : (j : ℕ) → j < length entry → j < length run
    inside j h = omega (arith, c.size)
