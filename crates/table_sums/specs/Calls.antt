-- What the inner calls of the table sums ask and give. Assumes nothing.
use Rattle.std.proofs.Math.Path.{◌≡◌, refl, ap}
use Rattle.std.proofs.Common.{sym, ◌∙◌, subst, inl, inr, le_trans, le_of_eq, eq-zero-or-pos, add_comm, mul-le-mul_left, ext_get_or}
use Rattle.std.specs.Prelude.{◌⊎◌, Bool, List, ℕ, suc, ◌+◌, ◌-◌, ◌*◌, ◌^◌, ◌≤◌, ◌<◌, T, Float, ℤ, pos, length, get_or}
use Rattle.std.proofs.Math.Bool.{true, false, cond}
use Rattle.std.proofs.Math.Nat.{le-suc, le-max_left}
use Rattle.std.proofs.Math.Decide.{dec_lt}
use native.Mathlib.Omega.{arith}
use Rattle.std.specs.Float.{nan}
use Rattle.whole.specs.Whole.{whole}
use Rattle.binomials.specs.Binomial.{binomial}
use Rattle.lattice.specs.Tally.{total, start, rank_of, tallies, start_suc}
use Rattle.lattice.specs.Tallies.{Fits, start_count, start_mono}
use Rattle.lattice.specs.Rank.{AtMost, rank_below, rank_from}
use Rattle.lattice.specs.Lattice.{length_lattice_start, start_next}
use Rattle.lattice.specs.Leaves.{leave_rank}
use Rattle.lattice.specs.Answers.{served}
use Rattle.lattice.specs.Served.{facts}
use Rattle.lattice.specs.declared.sizes.Sizes.{Sizes}
use Rattle.hands.specs.Hands.{holds, ways}
use Rattle.hands.proofs.Hands.{ways_drawable}
use Rattle.fused.specs.Racks.{Pool, RackWays}
use Rattle.sums.specs.Weight.{Clear}
use Rattle.table_sums.specs.Table.{best_at, most_best, Sized, Limit, Filled, Verdict, accepted, limits, Apportioned}
use Rattle.table_sums.specs.Racks.{most_from, Cleared, part, anew, part_long, part_at, anew_long, anew_below, anew_from}
use Rattle.table_sums.specs.Dealt.{Ways, most_is}

-- the sizes are those of a lattice of the pool's letters
module _ (s : Sizes) (pool : List ℕ) (letters : length pool ≡ s.n) where
  pub served_so : served (length pool) s.r ≡ true
  served_so = ap (λ (k : ℕ). served k s.r) letters ∙ s.is_served

  pub racks_so : s.leaves ≡ start (length pool) s.r
  racks_so = s.starts ∙ ap (λ (k : ℕ). start k s.r) (sym letters)

-- a clear table with an entry for each multiset, and few enough hands
pub record Clearly (s : Sizes) (pool : List ℕ) (xs : List Float) : Type 0 where
  pub letters : length pool ≡ s.n
  pub long : length xs ≡ start (length pool) (suc s.r)
  pub clear : Clear xs
  pub small : binomial (total pool) s.r * 16 ≤ 2 ^ 53

-- a becomes b: the full racks have their ways, and the rest is as it was
pub record RacksDealt (pool : List ℕ) (r lo : ℕ) (a b : List Float) : Type 0 where
  pub long : length b ≡ length a
  pub dealt : Ways pool r b
  pub below : (i : ℕ) → i < lo → get_or b i nan ≡ get_or a i nan

-- num is clear and den has the ways of the full racks, within the limit
pub record Summing (s : Sizes) (best : List ℤ) (pool : List ℕ) (num den : List Float) : Type 0 where
  pub letters : length pool ≡ s.n
  pub lengths : Sized (length pool) s.r best pool num den
  pub clear : Clear num
  pub dealt : Ways pool s.r den
  pub limit : Limit (length pool) s.r best pool

-- both are clear, w is the weight, and with bests of 16 it is within the limit
pub record Dealing (w : ℕ) (s : Sizes) (best : List ℤ) (pool : List ℕ) (num den : List Float) : Type 0 where
  pub letters : length pool ≡ s.n
  pub lengths : Sized (length pool) s.r best pool num den
  pub nums : Clear num
  pub dens : Clear den
  pub weight : w ≡ binomial (total pool) s.r
  pub small : binomial (total pool) s.r * 16 ≤ 2 ^ 53

-- what is left where all but the limit on the bests holds
pub data Dealt (n r : ℕ) (best : List ℤ) (pool : List ℕ) (num den : List Float) : ℕ → List Float → List Float → Type 0 where
  summed : {num' den' : List Float} → Limit n r best pool → Filled n r (best_at n best) pool num' den' → Dealt n r best pool num den 0 num' den'
  beyond : (Limit n r best pool → ⊥) → Dealt n r best pool num den 9 num den

-- ---- the ways are dealt into the part of the table from lo on

module _ {z : Sizes} {pool : List ℕ} {xs : List Float} (c : Clearly z pool xs) where
  abbrev n : ℕ
  n = length pool

  abbrev r : ℕ
  r = z.r

  abbrev lo : ℕ
  lo = z.leaves

  racks : lo ≡ start n r
  racks = racks_so z pool c.letters

  pub lo_below : lo ≤ length xs
  lo_below = omega (arith, racks, c.long, start_mono n (le-suc r))

  pub part_pool : Pool pool r (length (part lo xs))
  part_pool = let f = facts n r (served_so z pool c.letters) in record { few = f.letters; tiles = f.tiles; small = c.small; racks = part_long lo xs lo_below ∙ omega (arith, racks, c.long, start_count n r) }

  module _ {ys : List Float} (w : RackWays pool r (part lo xs) ys) where
    rack_ways : (R : List ℕ) → Fits n r R → get_or (anew lo xs ys) (rank_of n R) nan ≡ whole (pos (ways pool R))
    rack_ways R f =
        let m : AtMost n r R = record { letters = f.letters; tiles = le_of_eq f.tiles } in
        let low : start n r ≤ rank_of n R = le_trans (le_of_eq (ap (start n) (sym f.tiles))) (rank_from n R) in
        let high : rank_of n R < start n (suc r) = le_trans (rank_below n r R m) (le_of_eq (length_lattice_start n r)) in
        let j = rank_of n R - start n r in
        let e : lo + j ≡ rank_of n R = omega (arith, racks) in
        let short : j < length xs - lo = omega (arith, c.long, racks) in
        ap (λ (k : ℕ). get_or (anew lo xs ys) k nan) (sym e)
        ∙ anew_from lo xs lo_below ys j nan (omega (arith, w.long, part_long lo xs lo_below))
        ∙ w.rack R f
        ∙ by (holds pool R) refl (low, high)
      where
        none : holds pool R ≡ false → (ways pool R ≡ 0) ⊎ (0 < ways pool R) → ways pool R ≡ 0
        none e (inl z) = z
        none e (inr h) = absurd (subst T e (ways_drawable pool R f.letters h))

        by : (b : Bool) → holds pool R ≡ b → (start n r ≤ rank_of n R) × (rank_of n R < start n (suc r)) → cond b (whole (pos (ways pool R))) (get_or (part lo xs) (rank_of n R - start n r) nan) ≡ whole (pos (ways pool R))
        by true e h = refl
        by false e h =
            let j = rank_of n R - start n r in
            let k : lo + j ≡ rank_of n R = omega (arith, racks, h.0) in
            let short : j < length xs - lo = omega (arith, c.long, racks, h.0, h.1) in
            part_at lo xs lo_below j nan short ∙ c.clear (lo + j) (omega (arith, c.long, h.1))
            ∙ ap (λ (z : ℕ). whole (pos z)) (sym (none e (eq-zero-or-pos (ways pool R))))

    pub part_dealt : RacksDealt pool r lo xs (anew lo xs ys)
    part_dealt = record {
      long = anew_long lo xs lo_below ys (w.long ∙ part_long lo xs lo_below);
      dealt = record { racks = rack_ways; leaves = λ m l h. let k = leave_rank n r m l h in anew_below lo xs lo_below ys (rank_of n m) nan (omega (arith, racks)) ∙ c.clear (rank_of n m) (omega (arith, racks, lo_below)) };
      below = λ i h. anew_below lo xs lo_below ys i nan h;
    }

-- ---- the sums

pub all_sizes : (n r : ℕ) → binomial (n + r) n ≡ start n (suc r)
all_sizes n r = ap (λ (k : ℕ). binomial k n) (add_comm n r) ∙ sym (start_suc n r)

module _ {z : Sizes} {best : List ℤ} {pool : List ℕ} {num den : List Float} (s : Summing z best pool num den) where
  pub values_fit : (z.leaves ≤ length best) × (length best ≡ length den) × (length best ≡ length num)
  values_fit =
      let l = s.lengths in
      let e = all_sizes (length pool) z.r in
      (omega (arith, racks_so z pool s.letters, l.bests, e, start_mono (length pool) (le-suc z.r)), l.bests ∙ sym l.dens, l.bests ∙ sym l.nums)

  pub fold_fits : {k : ℕ} → k ≡ length num → k ≡ start z.n (suc z.r)
  fold_fits e = e ∙ s.lengths.nums ∙ all_sizes (length pool) z.r ∙ ap (λ (k : ℕ). start k (suc z.r)) s.letters

-- ---- the limit, once the ways are dealt

module _ {w : ℕ} {z : Sizes} {best : List ℤ} {pool : List ℕ} {num den : List Float} (d : Dealing w z best pool num den) where
  pub clearly : Clearly z pool den
  clearly = record { letters = d.letters; long = d.lengths.dens ∙ all_sizes (length pool) z.r; clear = d.dens; small = d.small }

  module _ {den' : List Float} (v : RacksDealt pool z.r z.leaves den den') where
    pub most_fits : (z.leaves ≤ length best) × (length best ≡ length den')
    most_fits =
        let l = d.lengths in
        (omega (arith, racks_so z pool d.letters, l.bests, all_sizes (length pool) z.r, start_mono (length pool) (le-suc z.r)), l.bests ∙ sym (v.long ∙ l.dens))

    small : binomial (total pool) z.r ≤ 2 ^ 53
    small = omega (arith, d.small)

    module _ {most : ℕ} (is : most ≡ most_from z.leaves best den' (length best - z.leaves)) where
      pub most_best_lem : most ≡ most_best (length pool) z.r best pool
      most_best_lem =
          let n = length pool in
          let e : length best - z.leaves ≡ length (tallies n z.r) = omega (arith, racks_so z pool d.letters, d.lengths.bests, all_sizes n z.r, start_next n z.r) in
          is ∙ ap (λ (k : ℕ). most_from k best den' (length best - z.leaves)) (racks_so z pool d.letters) ∙ most_is pool z.r best den' v.dealt small (length best - z.leaves) e

      pub some_most : 0 < most
      some_most =
          let least : 16 ≤ most_best (length pool) z.r best pool = le-max_left 16 _ in
          omega (arith, most_best_lem)

      pub limit_holds : w * most ≤ 2 ^ 53 → Limit (length pool) z.r best pool
      limit_holds h = record { within = rw (← most_best_lem, ← d.weight) h }

      pub limit_fails : (w * most ≤ 2 ^ 53 → ⊥) → Limit (length pool) z.r best pool → ⊥
      limit_fails f h = f (rw (d.weight, most_best_lem) h.within)

      pub summing : w * most ≤ 2 ^ 53 → Summing z best pool num den'
      summing h = record {
        letters = d.letters;
        lengths = record { bests = d.lengths.bests; letters = d.lengths.letters; nums = d.lengths.nums; dens = v.long ∙ d.lengths.dens };
        clear = d.nums;
        dealt = v.dealt;
        limit = limit_holds h;
      }

    pub clear_fits : z.leaves ≤ length den'
    clear_fits = omega (arith, v.long, lo_below clearly)

    -- taken out again
    pub restored : {ys : List Float} → Cleared z.leaves (length den') den' ys → ys ≡ den
    restored {ys} k =
        let e : length ys ≡ length den = k.long ∙ v.long in
        ext_get_or nan ys den e (λ i h. by i h (dec_lt i z.leaves))
      where
        by : (i : ℕ) → i < length ys → Dec (i < z.leaves) → get_or ys i nan ≡ get_or den i nan
        by i h (yes l) = k.outside i (inl l) ∙ v.below i l
        by i h (no l) = k.inside i (omega arith) (omega (arith, k.long)) ∙ sym (d.dens i (omega (arith, k.long, v.long)))

pub beyond_restored : {n r : ℕ} {best : List ℤ} {pool : List ℕ} {num den xs : List Float} → (Limit n r best pool → ⊥) → xs ≡ den → Dealt n r best pool num den 9 num xs
beyond_restored {n} {r} {best} {pool} {num} {den} f e = subst (λ (ys : List Float). Dealt n r best pool num den 9 num ys) (sym e) (beyond f)

-- ---- the answers

pub refused : {n r : ℕ} {best : List ℤ} {pool : List ℕ} {num den : List Float} {answer : ℕ}
    → Verdict (served n r ≡ true) (Sized n r best pool num den) (Clear num × Clear den) (Limit n r best pool) answer → (answer ≡ 0 → ⊥)
    → Apportioned n r best pool num den answer num den
refused v f = record { answered = v; untouched = λ _. (refl, refl); filled = λ e. absurd (f e) }

module _ {n r : ℕ} {best : List ℤ} {pool : List ℕ} {num den : List Float} (served_is : served n r ≡ true) (lengths-are : Sized n r best pool num den) (a : Clear num) (b : Clear den) where
  pub dealt_apportioned : {answer : ℕ} {num' den' : List Float} → Dealt n r best pool num den answer num' den' → Apportioned n r best pool num den answer num' den'
  dealt_apportioned (summed l f) = record { answered = accepted served_is lengths-are (a, b) l; untouched = λ g. absurd (g refl); filled = λ _. f }
  dealt_apportioned (beyond f) = refused (limits served_is lengths-are (a, b) f) (not_zero 9 (omega arith))
    where
      not_zero : (k : ℕ) → 0 < k → k ≡ 0 → ⊥
      not_zero k h e = omega arith

-- with bests of 16 the weight is beyond the limit
pub beyond_least : {n r : ℕ} {best : List ℤ} {pool : List ℕ} → (binomial (total pool) r * 16 ≤ 2 ^ 53 → ⊥) → Limit n r best pool → ⊥
beyond_least {n} {r} {best} {pool} f l = f (le_trans (mul-le-mul_left (binomial (total pool) r) (le-max_left 16 _)) l.within)

-- the slices have the lengths that a lattice of so many multisets and n letters asks
pub record HaveSize (size n : ℕ) (best : List ℤ) (pool : List ℕ) (num den : List Float) : Type 0 where
  pub bests : length best ≡ size
  pub letters : length pool ≡ n
  pub nums : length num ≡ size
  pub dens : length den ≡ size

module _ {n r size : ℕ} {best : List ℤ} {pool : List ℕ} {num den : List Float} (e : size ≡ binomial (n + r) n) where
  pub sized_of : HaveSize size n best pool num den → Sized n r best pool num den
  sized_of h = record { bests = h.bests ∙ e; letters = h.letters; nums = h.nums ∙ e; dens = h.dens ∙ e }

  pub not_sized : (HaveSize size n best pool num den → ⊥) → Sized n r best pool num den → ⊥
  not_sized f s = f (record { bests = s.bests ∙ sym e; letters = s.letters; nums = s.nums ∙ sym e; dens = s.dens ∙ sym e })

-- over the pool's own letters
pub own_sized : {n r : ℕ} {best : List ℤ} {pool : List ℕ} {num den : List Float} → Sized n r best pool num den → Sized (length pool) r best pool num den
own_sized {n} {r} {best} {pool} {num} {den} s = subst (λ (k : ℕ). Sized k r best pool num den) (sym s.letters) s

pub own_apportioned : {n r : ℕ} {best : List ℤ} {pool : List ℕ} {num den : List Float} {answer : ℕ} {num' den' : List Float} → length pool ≡ n
    → Apportioned (length pool) r best pool num den answer num' den' → Apportioned n r best pool num den answer num' den'
own_apportioned {n} {r} {best} {pool} {num} {den} {answer} {num'} {den'} e a = subst (λ (k : ℕ). Apportioned k r best pool num den answer num' den') e a
