-- The contract leaves no choice: what a call answers decides every entry of num, den, ways and maxsheet. Assumes nothing.
use Rattle.std.specs.Prelude.{ℕ, ◌<◌, List, [], ◌≡◌, Float, ℤ, pos, length, get_or}
use Rattle.std.proofs.Common.{sym, ◌∙◌, subst, ext_get_or, arith}
use Rattle.std.specs.Float.{nan}
use Rattle.std.proofs.Math.Decide.{ℕ_discrete, dec_lt}
use Rattle.laws.specs.Integer.{at_ℤ}
use Rattle.lattice.specs.Tally.{total, tallies, lattice, start, rank_of, tally_at}
use Rattle.lattice.specs.Tallies.{Fits, tally_at_fits, within_at}
use Rattle.lattice.specs.Leaves.{LeaveAt, leave_at, leave_rank}
use Rattle.lattice.specs.Rank.{rank_at, at_fits}
use Rattle.fused.specs.Racks.{rack_place}
use Rattle.fused.specs.ZetaSums.{Summed}
use Rattle.fused.specs.Answer.{Input, Lent, lent, accepted_of, Deals, Bests, Fused}
use Rattle.fused.specs.Modes.{Kind, alone, scattered, split, kind, subset_is}

-- the multiset at an index is a leave or a full rack
pub data Place (n r i : ℕ) : Type 0 where
  leave : i < start n r → Place n r i
  full : (R : List ℕ) → Fits n r R → rank_of n R ≡ i → Place n r i

pub place : (n r i : ℕ) → i < length (lattice n r) → Place n r i
place n r i h = go (dec_lt i (start n r))
  where
    tiles : (i < start n r → ⊥) → total (tally_at n r i) ≡ r
    tiles f = by (dec_lt (total (tally_at n r i)) r)
      where
        by : Dec (total (tally_at n r i) < r) → total (tally_at n r i) ≡ r
        by (yes l) = absurd (f (rw (rank_at n r i h) at (leave_rank n r (tally_at n r i) (at_fits n r i h).letters l)))
        by (no l) = let t = (at_fits n r i h).tiles in omega arith

    go : Dec (i < start n r) → Place n r i
    go (yes l) = leave l
    go (no l) = full (tally_at n r i) (record { letters = (at_fits n r i h).letters; tiles = tiles l }) (rank_at n r i h)

-- ---- each slice

module _ {n r : ℕ} {pool : List ℕ} where
  pub summed_one : {best : List ℕ → ℤ} {num den num' den' : List Float} → Summed n r pool best num den → Summed n r pool best num' den' → (num ≡ num') × (den ≡ den')
  summed_one {best} {num} {den} {num'} {den'} s t =
      (ext_get_or nan num num' (s.nums ∙ sym t.nums) (λ i h. at_num i (leave_at n r i (omega (arith, s.nums)))), ext_get_or nan den den' (s.dens ∙ sym t.dens) (λ i h. at_den i (leave_at n r i (omega (arith, s.dens)))))
    where
      at_num : (i : ℕ) → LeaveAt n r i → get_or num i nan ≡ get_or num' i nan
      at_num i x = subst (λ (j : ℕ). get_or num j nan ≡ get_or num' j nan) x.rank (s.sum x.leave x.letters x.tiles ∙ sym (t.sum x.leave x.letters x.tiles))

      at_den : (i : ℕ) → LeaveAt n r i → get_or den i nan ≡ get_or den' i nan
      at_den i x = subst (λ (j : ℕ). get_or den j nan ≡ get_or den' j nan) x.rank (s.count x.leave x.letters x.tiles ∙ sym (t.count x.leave x.letters x.tiles))

  pub deals_one : {a b : List Float} → Deals n r pool a → Deals n r pool b → a ≡ b
  deals_one {a} {b} s t = ext_get_or nan a b (s.racks ∙ sym t.racks) (λ i h. at i (omega (arith, s.racks)))
    where
      at : (i : ℕ) → i < length (tallies n r) → get_or a i nan ≡ get_or b i nan
      at i h =
          let R = get_or (tallies n r) i [] in
          let f = tally_at_fits n r i h in
          subst (λ (j : ℕ). get_or a j nan ≡ get_or b j nan) (rack_place n r R f ∙ within_at n r i h) (s.rack R f ∙ sym (t.rack R f))

pub bests_one : {g : Input} {a b b' : List ℤ} → length g.pool ≡ g.n → length a ≡ length (lattice g.n g.r) → Bests g a b → Bests g a b' → b ≡ b'
bests_one {g} {a} {b} {b'} letters size s t = ext_get_or (pos 0) b b' (s.long ∙ sym t.long) (λ i h. at i (omega (arith, s.long)) (kind g.mode))
  where
    same : (i : ℕ) → i < length (lattice g.n g.r) → (i < start g.n g.r → at_ℤ b i ≡ at_ℤ b' i) → ((R : List ℕ) → Fits g.n g.r R → at_ℤ b (rank_of g.n R) ≡ at_ℤ b' (rank_of g.n R)) → at_ℤ b i ≡ at_ℤ b' i
    same i h below racks = go (place g.n g.r i h)
      where
        go : Place g.n g.r i → at_ℤ b i ≡ at_ℤ b' i
        go (leave l) = below l
        go (full R f e) = subst (λ (j : ℕ). at_ℤ b j ≡ at_ℤ b' j) e (racks R f)

    at : (i : ℕ) → i < length (lattice g.n g.r) → Kind g.mode → at_ℤ b i ≡ at_ℤ b' i
    at i h (alone e) =
        let y = tally_at g.n g.r i in
        let m = at_fits g.n g.r i h in
        subst (λ (j : ℕ). at_ℤ b j ≡ at_ℤ b' j) (rank_at g.n g.r i h)
        (subset_is g.sheet g.n y (s.alone e y m.letters m.tiles) ∙ sym (subset_is g.sheet g.n y (t.alone e y m.letters m.tiles)))
    at i h (scattered e f) =
        same i h
        (λ l. (s.scattered f).below i (rw letters l) ∙ sym ((t.scattered f).below i (rw letters l)))
        (λ R q. subst (λ (k : ℕ). at_ℤ b (rank_of k R) ≡ at_ℤ b' (rank_of k R)) letters
        ((s.scattered f).full R (q.letters ∙ sym letters) q.tiles ∙ sym ((t.scattered f).full R (q.letters ∙ sym letters) q.tiles)))
    at i h (split e f) =
        same i h
        (λ l. (s.split e f).below i l ∙ sym ((t.split e f).below i l))
        (λ R q. (s.split e f).rack R q ∙ sym ((t.split e f).rack R q))

-- ---- the call

pub fused_one : {g : Input} {o a b : Lent} {k : ℕ} → Fused g o k a → Fused g o k b → a ≡ b
fused_one {g} {o} {a} {b} {k} s t = by (ℕ_discrete k 0)
  where
    by : Dec (k ≡ 0) → a ≡ b
    by (no f) = s.untouched f ∙ sym (t.untouched f)
    by (yes e) =
        let c = accepted_of s.answered e in
        let p = s.filled e in
        let q = t.filled e in
        let sums = summed_one p.sums q.sums in
        let deals = deals_one p.drawn q.drawn in
        let bests = bests_one c.sound.lengths.in_pool c.lengths.in_maxsheet p.bests q.bests in
        (λ i. lent (sums.0 i) (sums.1 i) (deals i) (bests i))
