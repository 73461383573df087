-- From the best leave that is found to its answer. Assumes nothing.
use mathlib.Core.Path.{◌≡◌, refl, sym, ap, ◌∙◌, subst}
use mathlib.Core.List.{List}
use Prim.Native.Nat.{ℕ, ◌+◌, ◌-◌, ◌≤◌, ◌<◌}
use native.Mathlib.Omega.{arith}
use lib.IntN.{ℤ}
use lib.ListN.{length}
use lib.Seq.{take-length}
use Rattle.binomials.specs.Binomial.{binomial}
use Rattle.lattice.specs.Tally.{total}
use Rattle.lattice.specs.Tallies.{count}
use Rattle.search.specs.Counts.{at_most}
use Rattle.search.specs.Keep.{KeepReady}
use Rattle.search.specs.Refusals.{Sized, within_length}
use Rattle.search.specs.BestKeep.{no_leave, best_keep}
use Rattle.search.specs.Answers.{given, given_refused, leave_given, keep_value, KeepAnswered}
use Rattle.refusal.specs.Refusal.{code_of, code_some}
use Rattle.refusal.specs.declared.Refusal.{Refusal}
use Rattle.std.specs.Prelude.{Option, Result, Ok, Err}
use Rattle.search.specs.Results.{PartOf, rank_given, keep_attained}
use Rattle.lattice.specs.Numbers.{none}
use Rattle.std.proofs.Common.{⊎_elim, ne_eqb}
use Rattle.search.specs.declared.Kept.{Kept}

-- what the walk asks at the start
pub sized_keep : {n r : ℕ} (leave : List ℤ) (t : List ℕ) {tiles k : ℕ} → Sized n r (length leave) (length leave) t → tiles ≡ total t → k ≤ tiles → KeepReady leave t (length t) tiles 0 0 k
unfolding count
sized_keep {n} {r} leave t {tiles} {k} s e h =
    let z : length t - length t ≡ 0 = omega arith in
    let room : at_most (length t) (0 + k) ≤ binomial (n + r) n = subst (λ (m : ℕ). at_most m (0 + k) ≤ binomial (n + r) n) (sym s.letters) (within_length n r (0 + k) (omega (arith, s.tiles))) in
    record {
      letters = omega arith;
      few = omega (arith, s.letters, s.sizes.letters);
      all = e ∙ sym (ap total (take-length t));
      enough = h;
      tiles = omega (arith, s.tiles, s.sizes.tiles);
      first = subst (λ (m : ℕ). 0 < count m 0) (sym z) (omega arith);
      in_leave = omega (arith, room, s.in_leave);
      ranks = omega (arith, s.in_leave, s.sizes.few);
    }

module _ {refusal : ℕ} where
  pub keep_refused : (best : Kept) {b : Result (Option Kept) Refusal} (e : Refusal) → b ≡ Err e → code_of e ≡ refusal → KeepAnswered refusal best b
  unfolding keep_value
  keep_refused best e is k =
      let some = λ (z : refusal ≡ 0). code_some e (k ∙ z) in
      rw is (record { is = λ z. absurd (some z); numbered = k; valued = sym (given_refused refusal best no_leave some) })

  pub keep_is : {best : Kept} → refusal ≡ 0 → {b : Option Kept} → keep_value (Ok b) ≡ best → b ≡ leave_given best → KeepAnswered refusal best (Ok b)
  unfolding given
  keep_is z v e = record { is = λ _. ap Ok e; numbered = sym z; valued = rw z v }

-- the value of the leave that is given is the best
module _ {r : ℕ} (leave : List ℤ) (n : ℕ) (t : List ℕ) (k : ℕ) (s : Sized n r (length leave) (length leave) t) where
  pub keep_given : keep_value (Ok (leave_given (best_keep leave n t k))) ≡ best_keep leave n t k
  unfolding leave_given keep_value
  keep_given = ⊎_elim (λ e. rw e refl) (λ h. rw (ne_eqb (best_keep leave n t k).rank none (ranked h)) refl) (keep_attained leave n t k)
    where
      ranked : PartOf leave n t k (best_keep leave n t k) → (best_keep leave n t k).rank ≡ none → ⊥
      ranked h z = omega (arith, z, h.rank, rank_given leave n t k s h.part h.inside)
