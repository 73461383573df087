-- The best that a mode takes for a full rack: which it is, how large it is, and that maxsheet has it. Assumes nothing.
use Prim.Native.Nat.{ℕ, ◌+◌, ◌^◌, ◌≤◌, ◌<◌}
use Rattle.std.specs.Prelude.{Bool, true, false, not, ◌&&◌, ◌≡◌, refl, T, pos, ◌+ℤ◌, ◌≤ℤ◌}
use mathlib.Core.List.{List}
use Rattle.std.proofs.Common.{sym, ap, ◌∙◌, subst, le_of_eq, arith}
use Rattle.std.proofs.Math.Path.{fun_ext}
use Rattle.std.proofs.Math.IntN.{ℤ, nat_abs, +ℤ_idr}
use Rattle.std.proofs.Math.Nat.{le_trans}
use Rattle.laws.specs.Every.{every_at}
use Rattle.laws.specs.Greatest.{GreatestOver}
use Rattle.laws.specs.Integer.{at_ℤ, ≤ℤ-antisym}
use Rattle.lattice.specs.Tally.{rank_of, minus, parts}
use Rattle.lattice.specs.Tallies.{Fits}
use Rattle.lattice.specs.Parts.{Within-refl, parts_all}
use Rattle.hands.specs.Hands.{holds}
use Rattle.search.specs.Split.{Bounded, worth, best_of, best_split}
use Rattle.search.specs.Best.{best_of_attained, best_of_bound}
use Rattle.scatter.specs.Scatter.{scatter_at}
use Rattle.scatter.specs.BestSplit.{scatter_best}
use Rattle.sums.specs.Weight.{largest}
use Rattle.sums.specs.Largest.{largest_bounds, split_most}
use Rattle.fused.specs.Splits.{split_at}
use Rattle.fused.specs.Answer.{Input, sheet_alone, in_force, subset_best, mode_best, Words, Sound, most, Bests}
use Rattle.fused.specs.declared.mode.Mode.{Mode}

pub true_false : ◌≡◌ {A = Bool} true false → ⊥
true_false e = let z : ◌≡◌ {A = ℕ} 0 1 = cc in omega arith

-- ---- one of three

pub data Kind (m : Mode) : Type 0 where
  alone : sheet_alone m ≡ true → Kind m
  scattered : sheet_alone m ≡ false → in_force m ≡ true → Kind m
  split : sheet_alone m ≡ false → in_force m ≡ false → Kind m

pub kind : (m : Mode) → Kind m
kind m = by (sheet_alone m) refl (in_force m) refl
  where
    by : (a : Bool) → sheet_alone m ≡ a → (b : Bool) → in_force m ≡ b → Kind m
    by true e b f = alone e
    by false e true f = scattered e f
    by false e false f = split e f

-- no mode is of two kinds
pub alone_only : (m : Mode) → sheet_alone m ≡ true → in_force m ≡ true → ⊥
alone_only m = by m.zeta m.null_leave m.scatter
  where
    by : (z l s : Bool) → z && l ≡ true → (s && z) && not l ≡ true → ⊥
    by true true true e f = true_false (sym f)
    by true true false e f = true_false (sym f)
    by true false s e f = true_false (sym e)
    by false l s e f = true_false (sym e)

module _ (g : Input) (R : List ℕ) where
  pub best_alone : sheet_alone g.mode ≡ true → mode_best g R ≡ subset_best g.sheet g.n R
  unfolding mode_best
  best_alone e = rw e

  pub best_scattered : sheet_alone g.mode ≡ false → in_force g.mode ≡ true → mode_best g R ≡ scatter_at g.sheet g.leave g.pool g.n g.leave_max R
  unfolding mode_best
  best_scattered e f = rw (e, f)

  pub best_split_lem : sheet_alone g.mode ≡ false → in_force g.mode ≡ false → mode_best g R ≡ best_split g.sheet g.leave g.n R
  unfolding mode_best
  best_split_lem e f = rw (e, f)

-- ---- the subset maximum

module _ (sheet : List ℤ) (n : ℕ) (R : List ℕ) where
  pub subset_is : {v : ℤ} → GreatestOver ◌≤ℤ◌ (parts R) (λ P. at_ℤ sheet (rank_of n P)) v → v ≡ subset_best sheet n R
  unfolding subset_best
  subset_is {v} h =
      let f : List ℕ → ℤ = λ P. at_ℤ sheet (rank_of n P) in
      let whole = parts_all R R (Within-refl R) in
      let a = best_of_attained f (parts R) whole in
      ≤ℤ-antisym (subst (λ (z : ℤ). z ≤ℤ best_of f (parts R)) h.attained (best_of_bound f (parts R) h.there))
      (subst (λ (z : ℤ). z ≤ℤ v) a.is (every_at h.above a.there))

  pub subset_most : (A : ℕ) → Bounded A sheet → nat_abs (subset_best sheet n R) ≤ A
  unfolding subset_best Bounded
  subset_most A b =
      let a = best_of_attained (λ P. at_ℤ sheet (rank_of n P)) (parts R) (parts_all R R (Within-refl R)) in
      le_trans (le_of_eq (ap nat_abs (sym a.is))) (b (rank_of n a.part))

-- ---- the best split

-- where no leave is worth anything it is the subset maximum of sheet
null_best : (sheet leave : List ℤ) (n : ℕ) (R : List ℕ) → ((i : ℕ) → at_ℤ leave i ≡ pos 0) → subset_best sheet n R ≡ best_split sheet leave n R
unfolding subset_best best_split worth
null_best sheet leave n R none =
    ap (λ (f : List ℕ → ℤ). best_of f (parts R))
    (fun_ext (λ P. sym (ap (λ (x : ℤ). at_ℤ sheet (rank_of n P) +ℤ x) (none (rank_of n (minus R P))) ∙ +ℤ_idr (at_ℤ sheet (rank_of n P)))))

-- ---- how large it is, at a full rack that can be drawn

module _ {g : Input} (d : Sound g) (R : List ℕ) (fits : Fits g.n g.r R) (drawn : T (holds g.pool R)) where
  -- with scatter in force it is the best split too
  scatter_is : Words g.n g.r g.sheet g.leave g.leave_max → scatter_at g.sheet g.leave g.pool g.n g.leave_max R ≡ best_split g.sheet g.leave g.n R
  scatter_is w = scatter_best g.sheet g.leave g.leave_max g.pool g.n g.r w.word_sheet.nonnegative w.is_max R fits.letters fits.tiles drawn

  -- at most the largest sheet and the largest leave, by any bounds of theirs
  best_most : (A B : ℕ) → Bounded A g.sheet → Bounded B g.leave → nat_abs (mode_best g R) ≤ A + B
  best_most A B a b = by (kind g.mode)
    where
      both : nat_abs (best_split g.sheet g.leave g.n R) ≤ A + B
      both = split_most g.sheet g.leave g.n A B a b R

      by : Kind g.mode → nat_abs (mode_best g R) ≤ A + B
      by (alone e) = le_trans (le_of_eq (ap nat_abs (best_alone g R e))) (let h = subset_most g.sheet g.n R A a in omega arith)
      by (scattered e f) = le_trans (le_of_eq (ap nat_abs (best_scattered g R e f ∙ scatter_is (d.words f)))) both
      by (split e f) = le_trans (le_of_eq (ap nat_abs (best_split_lem g R e f))) both

  -- M bounds it
  pub mode_most : nat_abs (mode_best g R) ≤ most g
  mode_most = let h = best_most (largest g.sheet) (largest g.leave) (largest_bounds g.sheet) (largest_bounds g.leave) in omega arith

  pub mode_range : nat_abs (mode_best g R) < 2 ^ 31
  mode_range = let h = best_most 536870911 536870911 d.entries.sheet_bound d.entries.leave_bound in omega arith

  -- it is the best split, in every mode; where sheet is taken alone, if no leave is worth anything
  pub mode_split : (sheet_alone g.mode ≡ true → (i : ℕ) → at_ℤ g.leave i ≡ pos 0) → mode_best g R ≡ best_split g.sheet g.leave g.n R
  mode_split none = by (kind g.mode)
    where
      by : Kind g.mode → mode_best g R ≡ best_split g.sheet g.leave g.n R
      by (alone e) = best_alone g R e ∙ null_best g.sheet g.leave g.n R (none e)
      by (scattered e f) = best_scattered g R e f ∙ scatter_is (d.words f)
      by (split e f) = best_split_lem g R e f

  -- maxsheet has it
  pub mode_at : {a b : List ℤ} → Bests g a b → at_ℤ b (rank_of g.n R) ≡ mode_best g R
  mode_at {a} {b} s = by (kind g.mode)
    where
      by : Kind g.mode → at_ℤ b (rank_of g.n R) ≡ mode_best g R
      by (alone e) = subset_is g.sheet g.n R (s.alone e R fits.letters (le_of_eq fits.tiles)) ∙ sym (best_alone g R e)
      by (scattered e f) =
          subst (λ (k : ℕ). at_ℤ b (rank_of k R) ≡ scatter_at g.sheet g.leave g.pool k g.leave_max R) d.lengths.in_pool
          ((s.scattered f).full R (fits.letters ∙ sym d.lengths.in_pool) fits.tiles) ∙ sym (best_scattered g R e f)
      by (split e f) = split_at (s.split e f) R fits drawn ∙ sym (best_split_lem g R e f)
