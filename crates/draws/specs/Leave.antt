-- The ranks of the multisets that make a full rack with d tiles more: those of one size. Assumes nothing.
use Rattle.std.specs.Prelude.{◌≡◌, ℕ, suc, ◌-◌, ◌≤◌, ◌<◌, length}
use Rattle.std.proofs.Common.{ap, ◌∙◌, arith}
use Rattle.lattice.specs.Tally.{total, tallies, lattice, tally_at, start}
use Rattle.lattice.specs.Tallies.{start_mono, tally_at_fits}
use Rattle.lattice.specs.Lattice.{start_next, length_lattice_start, length_lattice}
use Rattle.lattice.specs.Rank.{rank_from, rank_to, rank_at, at_fits}
use Rattle.lattice.specs.Unrank.{unrank_size}
use Rattle.draws.specs.Draws.{Fills}

-- the ranks of size s
pub record OfSize (n s i : ℕ) : Type 0 where
  pub from : start n s ≤ i
  pub to : i < start n (suc s)

module _ (n r i d : ℕ) where
  pub size_fills : d ≤ r → OfSize n (r - d) i → Fills n r i d
  size_fills h o =
      let s = r - d in
      let at : i - start n s < length (tallies n s) = omega (arith, o.from, o.to, start_next n s) in
      let e : total (tally_at n r i) ≡ s = ap total (unrank_size n r s i (omega arith) o.from o.to) ∙ (tally_at_fits n s (i - start n s) at).tiles in
      let more : start n (suc s) ≤ start n (suc r) = start_mono n (omega arith) in
      record {
        below = omega (arith, o.to, length_lattice n r, length_lattice_start n r);
        tiles = omega arith;
      }

  pub fills_size : Fills n r i d → (d ≤ r) × OfSize n (r - d) i
  fills_size f =
      let inside : i < length (lattice n r) = omega (arith, f.below, length_lattice n r) in
      let t = tally_at n r i in
      let e : total t ≡ r - d = omega (arith, f.tiles) in (
        omega (arith, f.tiles),
        record {
          from = omega (arith, rank_from n t, rank_at n r i inside, ap (start n) e);
          to = omega (arith, rank_to n t (at_fits n r i inside).letters, rank_at n r i inside, ap (λ (k : ℕ). start n (suc k)) e);
        },
      )
