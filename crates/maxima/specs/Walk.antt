-- The judge's way through the multisets in rank order, with the places of the letters at each. Assumes nothing.
use Rattle.std.specs.Prelude.{ℕ, ◌+◌, ◌≤◌, ◌<◌, Bool, true, false, List, ◌≡◌, refl, ℤ, length}
use Rattle.std.proofs.Common.{sym, ◌∙◌, subst, arith}
use Rattle.std.proofs.Math.Decide.{ℕ_discrete, dec_lt}
use Rattle.laws.specs.Greatest.{Greatest, greatest_unique}
use Rattle.laws.specs.Integer.{at_ℤ}
use Rattle.lattice.specs.Served.{facts}
use Rattle.lattice.specs.Tally.{total, rank_of}
use Rattle.lattice.specs.Tallies.{start_mono}
use Rattle.lattice.specs.Lattice.{length_lattice_start}
use Rattle.lattice.specs.Rank.{AtMost, rank_from, rank_below, rank_injective}
use Rattle.order.specs.Next.{Next}
use Rattle.maxima.specs.Judge.{Decides, SubsetMax, Smaller, Local, local_max, max_local, Judging}
use Rattle.maxima.specs.Places.{Places, places_next}

true_false : ◌≡◌ {A = Bool} true false → ⊥
true_false e = let z : ◌≡◌ {A = ℕ} 0 1 = cc in omega arith

-- the multiset at index i is y: the places of its letters are to do, and at each multiset before it the entry is as it must be
pub record Reached (r : ℕ) (d m : List ℤ) (y at : List ℕ) (i : ℕ) : Type 0 where
  pub judging : Judging (length y) r d m
  pub rank : rank_of (length y) y ≡ i
  pub places : Places y (length y) at
  pub earlier : (x : List ℕ) → length x ≡ length y → rank_of (length y) x < i → Local (length y) d m x

module _ {r : ℕ} {d m : List ℤ} {y at : List ℕ} {i : ℕ} (here : Reached r d m y at i) where
  -- all are as they must be
  pub reached_end : length m ≤ i → Decides true (SubsetMax (length y) r d m)
  reached_end h = record { yes = λ e. local_max (length y) r d m all; no = λ e. absurd (true_false e) }
    where
      all : (x : List ℕ) → AtMost (length y) r x → Local (length y) d m x
      all x a = here.earlier x a.letters (omega (arith, rank_below (length y) r x a, here.judging.in_m))

  module _ (inside : i < length m) where
    reached_fits : AtMost (length y) r y
    reached_fits = record { letters = refl; tiles = by (dec_lt r (total y)) }
      where
        by : Dec (r < total y) → total y ≤ r
        by (yes q) = absurd (omega (arith, start_mono (length y) q, rank_from (length y) y, here.rank, here.judging.in_m, length_lattice_start (length y) r))
        by (no q) = omega arith

    -- what the step to the next multiset asks
    pub reached_small : (0 < length y) × (length y ≤ 64) × (total y < 255)
    reached_small =
        let f = facts (length y) r here.judging.sizes in
        (f.some_letter, f.letters, omega (arith, f.tiles, reached_fits.tiles))

    module _ {best : ℤ} (g : Greatest (at_ℤ d i) (Smaller (length y) m y 0) best) where
      -- the entry is another
      pub reached_no : (best ≡ at_ℤ m i → ⊥) → Decides false (SubsetMax (length y) r d m)
      reached_no f =
          record { yes = λ e. absurd (true_false (sym e)); no = λ e s. f (greatest_unique g (rw here.rank at (max_local (length y) r d m s y reached_fits))) }

      local_here : best ≡ at_ℤ m i → Local (length y) d m y
      local_here e = rw here.rank (rw e at g)

      -- the entry is that, and the walk goes on
      pub reached_next : best ≡ at_ℤ m i → {y' at' : List ℕ} → Places y 0 at' → Next y y' → Reached r d m y' at' (i + 1)
      reached_next e {y'} {at'} p s =
          record {
            judging = rw s.letters here.judging;
            rank = rw s.letters (omega (arith, s.rank, here.rank));
            places = places_next s p;
            earlier = λ x l h. rw s.letters (by x (l ∙ s.letters) (rw s.letters at h) (ℕ_discrete (rank_of (length y) x) i));
          }
        where
          by : (x : List ℕ) → length x ≡ length y → rank_of (length y) x < i + 1 → Dec (rank_of (length y) x ≡ i) → Local (length y) d m x
          by x l h (yes q) = subst (Local (length y) d m) (sym (rank_injective (length y) x y l refl (q ∙ sym here.rank))) (local_here e)
          by x l h (no q) = here.earlier x l (omega arith)
