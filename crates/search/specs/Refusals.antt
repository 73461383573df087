-- The number of each call for every input (docs/SCOPE.md, "Refusals"): the lowest that applies, and 0 where the call is accepted. Assumes nothing.
use Rattle.std.proofs.Math.Path.{◌≡◌, refl}
use Rattle.std.proofs.Common.{ap, ◌∙◌, add_comm, le_refl, arith}
use Rattle.std.specs.Prelude.{Bool, cond, ◌&&◌, List, ℕ, zero, suc, ◌+◌, ◌≤◌, ℤ, length}
use Rattle.std.proofs.Math.Bool.{true, false}
use borrow.Author.Tests.{eqb-true, leb-true, eq-eqb, ne_eqb}
use Rattle.std.proofs.Math.Dec.{leb, eqb}
use Rattle.laws.specs.Tests.{and_left, and_right}
use Rattle.binomials.specs.Binomial.{binomial}
use Rattle.lattice.specs.Tally.{total}
use Rattle.lattice.specs.Answers.{served}
use Rattle.lattice.specs.Served.{Served, facts}
use Rattle.search.specs.Counts.{at_most, at_most_mono}
use Rattle.search.specs.Split.{small, all_of, parts_small}

-- the first of two numbers that is a refusal
unfoldable pub or_else : ℕ → ℕ → ℕ
or_else zero k = k
or_else (suc j) k = suc j

pub or_first : {j : ℕ} (k : ℕ) → (j ≡ 0 → ⊥) → or_else j k ≡ j
unfolding or_else
or_first {j = zero} k f = absurd (f refl)
or_first {j = suc i} k f = refl

-- 2: sheet and leave have the lattice's length, and the tally n counts
abbrev pub lengths : ℕ → ℕ → ℕ → ℕ → List ℕ → Bool
lengths n r sheet leave t = eqb sheet (binomial (n + r) n) && eqb leave (binomial (n + r) n) && eqb (length t) n

-- 1, 2 and 4 (the sum of a tally is over r), for a rack and two tables of so many entries
unfoldable pub sizes_number : ℕ → ℕ → ℕ → ℕ → List ℕ → ℕ
sizes_number n r sheet leave t = cond (served n r) (cond (lengths n r sheet leave t) (cond (leb (total t) r) 0 4) 2) 1

-- 5: an entry of sheet or leave that the answer depends on, which is an entry at a part of the rack
unfoldable pub entries_number : List ℤ → List ℤ → ℕ → List ℕ → ℕ
entries_number sheet leave n t = cond (parts_small sheet leave n t) 0 5

-- best_equity_of
unfoldable pub rack_number : ℕ → ℕ → List ℤ → List ℤ → List ℕ → ℕ
rack_number n r sheet leave t = or_else (sizes_number n r (length sheet) (length leave) t) (entries_number sheet leave n t)

-- naive_best_equity: as best_equity_of, and 2 also where the slice for the kept tally has so many counts and not n
unfoldable pub naive_sizes : ℕ → ℕ → ℕ → ℕ → List ℕ → ℕ → ℕ
naive_sizes n r sheet leave t kept = cond (served n r) (cond (lengths n r sheet leave t && eqb kept n) (cond (leb (total t) r) 0 4) 2) 1

unfoldable pub naive_number : ℕ → ℕ → List ℤ → List ℤ → List ℕ → ℕ → ℕ
naive_number n r sheet leave t kept = or_else (naive_sizes n r (length sheet) (length leave) t kept) (entries_number sheet leave n t)

-- best_equity_table, where the slice to write has so many entries; it depends on all entries
unfoldable pub table_number : ℕ → ℕ → List ℤ → List ℤ → ℕ → ℕ
table_number n r sheet leave out =
    cond (served n r) (cond (eqb (length sheet) (binomial (n + r) n) && eqb (length leave) (binomial (n + r) n) && eqb out (binomial (n + r) n)) (cond (all_of small sheet && all_of small leave) 0 5) 2) 1

-- best_keep_of, which takes any leave
abbrev pub leave_number : ℕ → ℕ → List ℤ → List ℕ → ℕ
leave_number n r leave t = sizes_number n r (length leave) (length leave) t

-- ---- what it says that the sizes are accepted

pub record Sized (n r sheet leave : ℕ) (t : List ℕ) : Type 0 where
  pub serves : served n r ≡ true
  pub sizes : Served n r
  pub in_sheet : sheet ≡ binomial (n + r) n
  pub in_leave : leave ≡ binomial (n + r) n
  pub letters : length t ≡ n
  pub tiles : total t ≤ r

module _ (n r sheet leave : ℕ) (t : List ℕ) where
  pub sized : sizes_number n r sheet leave t ≡ 0 → Sized n r sheet leave t
  unfolding sizes_number
  sized = go (served n r) refl (lengths n r sheet leave t) refl (leb (total t) r) refl
    where
      go : (a : Bool) → served n r ≡ a → (b : Bool) → lengths n r sheet leave t ≡ b → (d : Bool) → leb (total t) r ≡ d → ◌≡◌ {A = ℕ} (cond a (cond b (cond d 0 4) 2) 1) 0 → Sized n r sheet leave t
      go false s b l d k e = absurd (omega (arith, e))
      go true s false l d k e = absurd (omega (arith, e))
      go true s true l false k e = absurd (omega (arith, e))
      go true s true l true k e =
          let N = binomial (n + r) n in
          let both = and_left (eqb sheet N && eqb leave N) (eqb (length t) n) l in
          record {
            serves = s;
            sizes = facts n r s;
            in_sheet = eqb-true sheet N (and_left (eqb sheet N) (eqb leave N) both);
            in_leave = eqb-true leave N (and_right (eqb sheet N) (eqb leave N) both);
            letters = eqb-true (length t) n (and_right (eqb sheet N && eqb leave N) (eqb (length t) n) l);
            tiles = leb-true (total t) r k;
          }

  -- the number that applies
  pub number_1 : served n r ≡ false → sizes_number n r sheet leave t ≡ 1
  unfolding sizes_number
  number_1 e = rw e

  pub number_2 : served n r ≡ true → lengths n r sheet leave t ≡ false → sizes_number n r sheet leave t ≡ 2
  unfolding sizes_number
  number_2 e l = rw (e, l)

  pub number_4 : served n r ≡ true → lengths n r sheet leave t ≡ true → leb (total t) r ≡ false → sizes_number n r sheet leave t ≡ 4
  unfolding sizes_number
  number_4 e l k = rw (e, l, k)

  pub number_0 : served n r ≡ true → lengths n r sheet leave t ≡ true → leb (total t) r ≡ true → sizes_number n r sheet leave t ≡ 0
  unfolding sizes_number
  number_0 e l k = rw (e, l, k)

  -- the same with a slice for the kept tally
  module _ (kept : ℕ) where
    pub play_1 : served n r ≡ false → naive_sizes n r sheet leave t kept ≡ 1
    unfolding naive_sizes
    play_1 e = rw e

    pub play_2 : served n r ≡ true → (kept ≡ n → ⊥) → naive_sizes n r sheet leave t kept ≡ 2
    unfolding naive_sizes
    play_2 e f = rw (e, ne_eqb kept n f) (go (lengths n r sheet leave t) (leb (total t) r))
      where
        go : (l b : Bool) → ◌≡◌ {A = ℕ} (cond (l && false) (cond b 0 4) 2) 2
        go false b = refl
        go true b = refl

    pub sizes_1 : sizes_number n r sheet leave t ≡ 1 → naive_sizes n r sheet leave t kept ≡ 1
    unfolding sizes_number naive_sizes
    sizes_1 = go (served n r) (lengths n r sheet leave t) (eqb kept n) (leb (total t) r)
      where
        go : (a l k b : Bool) → ◌≡◌ {A = ℕ} (cond a (cond l (cond b 0 4) 2) 1) 1 → ◌≡◌ {A = ℕ} (cond a (cond (l && k) (cond b 0 4) 2) 1) 1
        go false l k b e = refl
        go true false k b e = absurd (omega (arith, e))
        go true true k false e = absurd (omega (arith, e))
        go true true k true e = absurd (omega (arith, e))

    pub sizes_2 : (sizes_number n r sheet leave t ≡ 1 → ⊥) → (kept ≡ n → ⊥) → naive_sizes n r sheet leave t kept ≡ 2
    unfolding sizes_number naive_sizes
    sizes_2 f g = rw (ne_eqb kept n g) (go (served n r) (lengths n r sheet leave t) (leb (total t) r) f)
      where
        go : (a l b : Bool) → (◌≡◌ {A = ℕ} (cond a (cond l (cond b 0 4) 2) 1) 1 → ⊥) → ◌≡◌ {A = ℕ} (cond a (cond (l && false) (cond b 0 4) 2) 1) 2
        go false l b f = absurd (f refl)
        go true false b f = refl
        go true true b f = refl

    pub sizes_same : kept ≡ n → sizes_number n r sheet leave t ≡ naive_sizes n r sheet leave t kept
    unfolding sizes_number naive_sizes
    sizes_same e = rw (eq-eqb kept n e) (go (served n r) (lengths n r sheet leave t) (leb (total t) r))
      where
        go : (a l b : Bool) → ◌≡◌ {A = ℕ} (cond a (cond l (cond b 0 4) 2) 1) (cond a (cond (l && true) (cond b 0 4) 2) 1)
        go false l b = refl
        go true false b = refl
        go true true b = refl

    other_length : eqb kept n ≡ false → naive_sizes n r sheet leave t kept ≡ 0 → ⊥
    unfolding naive_sizes
    other_length k e = go (served n r) (lengths n r sheet leave t) (leb (total t) r) (rw k at e)
      where
        go : (a l b : Bool) → ◌≡◌ {A = ℕ} (cond a (cond (l && false) (cond b 0 4) 2) 1) 0 → ⊥
        go false l b e = omega (arith, e)
        go true false b e = omega (arith, e)
        go true true b e = omega (arith, e)

    -- accepted
    pub naive_sized : naive_sizes n r sheet leave t kept ≡ 0 → Sized n r sheet leave t × (kept ≡ n)
    naive_sized e = go (eqb kept n) refl
      where
        go : (b : Bool) → eqb kept n ≡ b → Sized n r sheet leave t × (kept ≡ n)
        go true k =
            let same = eqb-true kept n k in
            (sized (sizes_same same ∙ e), same)
        go false k = absurd (other_length k e)

-- ---- what the entries tell

module _ (sheet leave : List ℤ) (n : ℕ) (t : List ℕ) where
  pub entries_0 : parts_small sheet leave n t ≡ true → entries_number sheet leave n t ≡ 0
  unfolding entries_number
  entries_0 e = rw e

  pub entries_5 : parts_small sheet leave n t ≡ false → entries_number sheet leave n t ≡ 5
  unfolding entries_number
  entries_5 e = rw e

-- the entries at multisets of at most r tiles
pub within_length : (n r s : ℕ) → s ≤ r → at_most n s ≤ binomial (n + r) n
unfolding at_most
within_length n r s h = omega (arith, at_most_mono (le_refl n) h, ap (λ (k : ℕ). binomial k n) (add_comm r n))
