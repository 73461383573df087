-- What the outward call answers, for every input, and what it leaves in the slice. Assumes nothing.
use Rattle.std.proofs.Math.Path.{◌≡◌, refl}
use Rattle.std.proofs.Common.{sym, ◌∙◌, subst, arith, ext_get_or}
use Rattle.std.specs.Prelude.{Bool, IsTrue, ◌↔◌, List, [], ◌⊎◌, ◌≢◌, ℕ, ◌*◌, ◌<◌, ℤ, pos, get_or, ◌≤ℤ◌}
use Rattle.std.proofs.Math.Bool.{true, false}
use Rattle.std.proofs.Math.ListN.{length}
use Rattle.laws.specs.Every.{every_at}
use Rattle.laws.specs.Greatest.{GreatestOver}
use Rattle.laws.specs.Integer.{at_ℤ, ≤ℤ-antisym}
use Rattle.lattice.specs.AddRows.{Decides}
use Rattle.lattice.specs.Answers.{served}
use Rattle.lattice.specs.Tally.{lattice, start}
use Rattle.lattice.specs.Rank.{rank_at, at_fits}
use Rattle.lattice.specs.TableCalls.{Tables}
use Rattle.maxima.specs.Maxima.{SubsetMax}

-- the lengths that the call takes: a row of n ranks for each leave, as many letter by letter or none, and an entry for each multiset in src and in dst
pub record Lengths (n r add letters src dst : ℕ) : Type 0 where
  pub in_add : add ≡ start n r * n
  pub in_letters : (letters ≡ 0) ⊎ (letters ≡ start n r * n)
  pub in_src : src ≡ length (lattice n r)
  pub in_dst : dst ≡ length (lattice n r)

-- the number of the refusal of two tables of ranks, for src and dst of so many entries: 0 where they are accepted. No entry of src is refused
pub data SubsetMaxNumber (n r : ℕ) (add letters : List ℕ) (src dst : ℕ) : ℕ → Type 0 where
  accepted : served n r ≡ true → Lengths n r (length add) (length letters) src dst → Tables n r add letters → SubsetMaxNumber n r add letters src dst 0
  sizes : served n r ≡ false → SubsetMaxNumber n r add letters src dst 1
  lengths : served n r ≡ true → (Lengths n r (length add) (length letters) src dst → ⊥) → SubsetMaxNumber n r add letters src dst 2
  rule : served n r ≡ true → Lengths n r (length add) (length letters) src dst → (Tables n r add letters → ⊥) → SubsetMaxNumber n r add letters src dst 6

pub record SubsetMaxed (n r : ℕ) (add letters : List ℕ) (src entry : List ℤ) (answer : ℕ) (exit : List ℤ) : Type 0 where
  pub answered : SubsetMaxNumber n r add letters (length src) (length entry) answer
  pub untouched : (answer ≢ 0) → exit ≡ entry
  pub size : length exit ≡ length entry
  pub filled : answer ≡ 0 → SubsetMax n r src exit

-- ---- the call's own cases

module _ {n r : ℕ} {add letters : List ℕ} {src entry : List ℤ} where
  pub refused : {answer : ℕ} → SubsetMaxNumber n r add letters (length src) (length entry) answer → (answer ≢ 0)
      → SubsetMaxed n r add letters src entry answer entry
  refused a f = record { answered = a; untouched = λ g. refl; size = refl; filled = λ z. absurd (f z) }

  pub accepts : SubsetMaxNumber n r add letters (length src) (length entry) 0 → {exit : List ℤ} → SubsetMax n r src exit → length exit ≡ length entry
      → SubsetMaxed n r add letters src entry 0 exit
  accepts a h k = record { answered = a; untouched = λ g. absurd (g refl); size = k; filled = λ z. h }

-- ---- the definition leaves no choice

-- the greatest over a list is one value
greatest_one : {A : Type 0} {xs : List A} {f : A → ℤ} {v w : ℤ} → GreatestOver ◌≤ℤ◌ xs f v → GreatestOver ◌≤ℤ◌ xs f w → v ≡ w
greatest_one g h = ≤ℤ-antisym (below g h) (below h g)
  where
    below : {A : Type 0} {xs : List A} {f : A → ℤ} {v w : ℤ} → GreatestOver ◌≤ℤ◌ xs f v → GreatestOver ◌≤ℤ◌ xs f w → v ≤ℤ w
    below {w = w} g h = subst (λ (x : ℤ). x ≤ℤ w) g.attained (every_at h.above g.there)

-- two subset maxima of one table that have the lattice's length are equal: the call decides each entry of dst
pub subset_max_one : (n r : ℕ) (d a b : List ℤ) → length a ≡ length (lattice n r) → length b ≡ length (lattice n r) → SubsetMax n r d a → SubsetMax n r d b → a ≡ b
subset_max_one n r d a b la lb ha hb = ext_get_or (pos 0) a b (la ∙ sym lb) (λ i h. same i (rw la at h))
  where
    same : (i : ℕ) → i < length (lattice n r) → at_ℤ a i ≡ at_ℤ b i
    same i h =
        let f = at_fits n r i h in
        rw (rank_at n r i h) at (greatest_one (ha (get_or (lattice n r) i []) f.letters f.tiles) (hb (get_or (lattice n r) i []) f.letters f.tiles))

-- the judge of a table of leave_max says yes exactly if it is what the call leaves for leave
pub judged : {n r : ℕ} {add letters : List ℕ} {d m entry exit : List ℤ} {b : Bool} → Decides b (SubsetMax n r d m) → length m ≡ length (lattice n r)
    → SubsetMaxed n r add letters d entry 0 exit → Decides b (m ≡ exit)
judged {n} {r} {add} {letters} {d} {m} {entry} {exit} j l c =
    record { yes = λ e. subset_max_one n r d m exit l size (j.yes e) (c.filled refl); no = λ e q. j.no e (subst (SubsetMax n r d) (sym q) (c.filled refl)) }
  where
    in_dst : {k : ℕ} → k ≡ 0 → SubsetMaxNumber n r add letters (length d) (length entry) k → length entry ≡ length (lattice n r)
    in_dst e (accepted s l t) = l.in_dst
    in_dst e (sizes s) = absurd (omega arith)
    in_dst e (lengths s f) = absurd (omega arith)
    in_dst e (rule s l f) = absurd (omega arith)

    size : length exit ≡ length (lattice n r)
    size = c.size ∙ in_dst refl c.answered

-- the same of a judge that says so by one equivalence, as `maxima::is_subset_max` does
pub is_judged : {n r : ℕ} {add letters : List ℕ} {d m entry exit : List ℤ} {b : Bool} → IsTrue b ↔ SubsetMax n r d m → length m ≡ length (lattice n r)
    → SubsetMaxed n r add letters d entry 0 exit → IsTrue b ↔ (m ≡ exit)
is_judged {n} {r} {d = d} {m = m} {b = b} j l c = ((judged decides l c).yes, λ q. j.1 (subst (SubsetMax n r d) (sym q) (c.filled refl)))
  where
    decides : Decides b (SubsetMax n r d m)
    decides = record { yes = j.0; no = λ e s. let t : b ≡ true = j.1 s in cc }
