-- The sums of a dealt table fill the two tables. Assumes nothing.
use Rattle.std.proofs.Math.Path.{◌≡◌}
use Rattle.std.proofs.Common.{◌∙◌, subst}
use Rattle.std.specs.Prelude.{List, ℕ, Float, ℤ, length}
use Rattle.table_sums.specs.Table.{best_at, Filled}
use Rattle.table_sums.specs.Racks.{Valued}
use Rattle.table_sums.specs.Passes.{Folding, Summed}
use Rattle.table_sums.specs.Dealt.{limit_weight, count_folding, sum_folding}
use Rattle.table_sums.proofs.Dealt.{filled_of}
use Rattle.lattice.specs.declared.sizes.Sizes.{Sizes}
use Rattle.table_sums.specs.Calls.{Summing, all_sizes, racks_so}

module _ {z : Sizes} {best : List ℤ} {pool : List ℕ} {num den : List Float} (s : Summing z best pool num den) where
  abbrev r : ℕ
  r = z.r

  pub sums_filled : {num₁ num₂ den₂ : List Float} → Valued z.leaves best den (length best) num num₁
      → length num₂ ≡ length num₁ → ((g : List ℕ → ℤ) → Folding pool r g num₁ → Summed (length pool) r g num₂)
      → length den₂ ≡ length den → ((g : List ℕ → ℤ) → Folding pool r g den → Summed (length pool) r g den₂)
      → Filled (length pool) r (best_at (length pool) best) pool num₂ den₂
  sums_filled {num₁} v a f b g =
      let n = length pool in
      let l = s.lengths in
      let small = limit_weight pool r s.dealt best s.limit in
      filled_of pool r (best_at n best) (a ∙ v.long ∙ l.nums) (b ∙ l.dens)
      (f _ (sum_folding pool r s.dealt best s.limit num num₁ (l.nums ∙ all_sizes n r) s.clear (subst (λ (k : ℕ). Valued k best den (length best) num num₁) (racks_so z pool s.letters) v) (l.bests ∙ all_sizes n r)))
      (g _ (count_folding pool r s.dealt small))
