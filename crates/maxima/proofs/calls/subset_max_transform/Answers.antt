use Rattle.std.proofs.Common.{◌≡◌, ℕ, true, List, length, sym, ◌∙◌, arith}
use Rattle.std.proofs.lemmas.Result.{err_from_is_err_and}
use Rattle.lattice.specs.Answers.{served}
use Rattle.lattice.specs.Tally.{lattice}
use Rattle.lattice.specs.Lattice.{length_lattice}
use Rattle.lattice.specs.RankTables.{TableLengths, RanksNumber}
use Rattle.lattice.specs.declared.sizes.Sizes.{Sizes}
use Rattle.lattice.specs.RankTables.RanksNumber.{accepted, lengths, rule}
use Rattle.maxima.specs.Answers.{Lengths, SubsetMaxNumber, refused, accepts}
use Rattle.refusal.specs.Refusal.{code_some}
use Rattle.maxima.proofs.calls.subset_max_transform.Goals.{then-src-sizes-via-then-src-sizes, then-src-sizes-via-else-src-sizes+then-dst-sizes}
use Rattle.maxima.proofs.calls.subset_max_transform.Goals as goal

-- the lattice's own length
whole : (s : Sizes) → s.len ≡ length (lattice s.n s.r)
whole s = s.counts ∙ sym (length_lattice s.n s.r)

all_lengths : {n r a l s d : ℕ} → TableLengths n r a l → s ≡ length (lattice n r) → d ≡ length (lattice n r) → Lengths n r a l s d
all_lengths t e f = record { in_add = t.in_add; in_letters = t.in_letters; in_src = e; in_dst = f }

-- what refuses the tables refuses the call
module _ {n r : ℕ} {add letters : List ℕ} {s d : ℕ} (e : served n r ≡ true) (in_src : s ≡ length (lattice n r)) (in_dst : d ≡ length (lattice n r)) where
  of_tables : {k : ℕ} → RanksNumber n r add letters k → SubsetMaxNumber n r add letters s d k
  of_tables (accepted l t) = SubsetMaxNumber.accepted e (all_lengths l in_src in_dst) t
  of_tables (lengths f) = SubsetMaxNumber.lengths e (λ l. f (record { in_add = l.in_add; in_letters = l.in_letters }))
  of_tables (rule l f) = SubsetMaxNumber.rule e (all_lengths l in_src in_dst) f

pub returns-in_err-sizes : goal.returns-in_err-sizes
returns-in_err-sizes c =
    let p = err_from_is_err_and c.from_residual.result c.from_residual.ensures.1 in
    rw (p.1, p.2, c.in_err-sizes.ensures.0) (refused (SubsetMaxNumber.sizes c.in_err-sizes.ensures.1) (λ z. omega arith))

pub returns-then-src-sizes : goal.returns-then-src-sizes
returns-then-src-sizes c =
    let s = c.in_ok-sizes.sizes in
    rw (← c.in_ok-sizes.ensures.0, ← c.in_ok-sizes.ensures.1)
    (refused (SubsetMaxNumber.lengths s.is_served (λ l. elim c.then-src-sizes.branch [
      | then-src-sizes-via-then-src-sizes w ↦ w.if-src-sizes.true (l.in_src ∙ sym (whole s))
      | then-src-sizes-via-else-src-sizes+then-dst-sizes w ↦ w.if-dst-sizes.true (l.in_dst ∙ sym (whole s))
    ])) (λ z. omega arith))

pub returns-in_err-ranks : goal.returns-in_err-ranks
returns-in_err-ranks c =
    let s = c.in_ok-sizes.sizes in
    let p = err_from_is_err_and c.from_residual-in_err-ranks.result c.from_residual-in_err-ranks.ensures.1 in
    let of = of_tables s.is_served (c.if-src-sizes.false ∙ whole s) (c.if-dst-sizes.false ∙ whole s) c.in_err-ranks.ensures.number in
    rw (← c.in_ok-sizes.ensures.0, ← c.in_ok-sizes.ensures.1, p.1, p.2) (refused of (code_some c.in_err-ranks.field-0.0))

pub subset_max-requires-clause-in_src : goal.subset_max-requires-clause-in_src
subset_max-requires-clause-in_src c = c.if-src-sizes.false ∙ whole c.in_ok-sizes.sizes

pub subset_max-requires-clause-in_dst : goal.subset_max-requires-clause-in_dst
subset_max-requires-clause-in_dst c = c.if-dst-sizes.false ∙ whole c.in_ok-sizes.sizes

pub returns : goal.returns
returns c =
    let s = c.in_ok-sizes.sizes in
    rw (← c.in_ok-sizes.ensures.0, ← c.in_ok-sizes.ensures.1)
    (accepts (of_tables s.is_served (c.if-src-sizes.false ∙ whole s) (c.if-dst-sizes.false ∙ whole s) c.in_ok-ranks.ensures.number) c.subset_max.ensures.greatest c.subset_max.ensures.size)
