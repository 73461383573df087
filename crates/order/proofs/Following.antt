-- The tally that comes next in rank order, as stores make it, and its letters. Assumes nothing.
use mathlib.Core.Path.{◌≡◌, refl, sym, ap, ◌∙◌, subst}
use mathlib.Core.List.{List, [], ◌∷◌, ◌++◌}
use Prim.Native.Nat.{ℕ, zero, suc, ◌+◌, ◌-◌, ◌*◌, ◌/◌, ◌^◌, ◌≤◌, ◌<◌, zero-le}
use native.Mathlib.Nat.{zero-add, add-mul, mul_assoc, zero-mul, not-suc-le-zero, le_of_suc-le-suc, suc_inj}
use native.Mathlib.Decide.{dec_lt}
use native.Mathlib.Omega.{arith}
use lib.ListN.{length, get_or, set, take, drop, length-append, length-drop, length-set}
use lib.Pow.{pow-add, pow_mono}
use lib.Seq.{append_snoc, length-take-le, split_at, take-length, take-set-le, take-suc-set, drop-set-lt, get_or-set_same, get_or-set_other}
use Rattle.lattice.specs.NextLeave.{lone, length_lone, tail_lone, Follows, follows, follows_size}
use Rattle.lattice.specs.Step.{total_drop}
use Rattle.lattice.specs.Tally.{total, total_cons}
use Rattle.order.specs.Next.{Next, none_after, same_tails}
use Rattle.runs.specs.Runs.{mark, present, present_snoc, present_suc, present_below, none_present, mark_some, RunAt}

-- ---- tiles

-- as many tiles after the letters of s: as many from each of those on
same_front : (s a b : List ℕ) (k : ℕ) → k ≤ length s → total a ≡ total b → total (drop k (s ++ a)) ≡ total (drop k (s ++ b))
same_front [] a b zero h e = e
same_front [] a b (suc k) h e = absurd (not-suc-le-zero h)
same_front (c ∷ s) a b zero h e = rw (total_cons c (s ++ a), total_cons c (s ++ b), same_front s a b zero zero-le e)
same_front (c ∷ s) a b (suc k) h e = same_front s a b k (le_of_suc-le-suc h) e

-- ---- the last letter's tiles, after others

-- from each letter after s on there are as many
lone_tail : (s : List ℕ) (m v k : ℕ) → length s ≤ k → k < length s + m → total (drop k (s ++ lone m v)) ≡ v
lone_tail [] m v k h l = tail_lone m v k (omega arith)
lone_tail (c ∷ s) m v zero h l = absurd (not-suc-le-zero h)
lone_tail (c ∷ s) m v (suc k) h l = lone_tail s m v k (le_of_suc-le-suc h) (omega arith)

-- a store at the last letter, where no letter from l on is there
store_last : (z : List ℕ) (l q v : ℕ) → suc q ≡ length z → l ≤ q → total (drop l z) ≡ 0 → set z q v ≡ take l z ++ lone (length (drop l z)) v
unfolding lone
store_last [] l q v e h t = absurd (omega arith)
store_last (a ∷ z) (suc l) zero v e h t = absurd (not-suc-le-zero h)
store_last (a ∷ z) (suc l) (suc q) v e h t = ap (λ (r : List ℕ). a ∷ r) (store_last z l q v (suc_inj e) (le_of_suc-le-suc h) t)
store_last (a ∷ []) zero zero v e h t = refl
store_last (a ∷ []) zero (suc q) v e h t = absurd (omega arith)
store_last (a ∷ b ∷ z) zero zero v e h t = absurd (omega arith)
store_last (a ∷ b ∷ z) zero (suc q) v e h t =
    let s : a + total (b ∷ z) ≡ 0 = sym (total_cons a (b ∷ z)) ∙ t in
    let first : a ≡ 0 = omega arith in
    let rest = store_last (b ∷ z) zero q v (suc_inj e) zero-le (omega arith) in
    λ i. first i ∷ rest i

mark_one : (c : ℕ) → mark c ≤ 1
unfolding mark
mark_one zero = zero-le
mark_one (suc c) = omega arith

present_append : (s t : List ℕ) → present (s ++ t) ≡ present s * 2 ^ length t + present t
unfolding present
present_append [] t = omega (arith, zero-mul (2 ^ length t))
present_append (c ∷ s) t =
    let p : 2 ^ length (s ++ t) ≡ 2 ^ length s * 2 ^ length t = ap (λ (k : ℕ). 2 ^ k) (length-append s t) ∙ pow-add 2 (length s) (length t) in
    let q : mark c * 2 ^ length (s ++ t) ≡ mark c * 2 ^ length s * 2 ^ length t = ap (λ (x : ℕ). mark c * x) p ∙ sym (mul_assoc (mark c) (2 ^ length s) (2 ^ length t)) in
    omega (arith, q, present_append s t, add-mul (mark c * 2 ^ length s) (present s) (2 ^ length t))

present_lone : (m v : ℕ) → 0 < m → present (lone m v) ≡ mark v
unfolding lone present mark
present_lone zero v h = absurd (not-suc-le-zero h)
present_lone (suc zero) v h = omega arith
present_lone (suc (suc m)) v h = omega (arith, zero-mul (2 ^ length (lone (suc m) v)), present_lone (suc m) v (omega arith))

present_last : (s : List ℕ) (m v : ℕ) → 0 < m → present (s ++ lone m v) ≡ present s * 2 ^ m + mark v
present_last s m v h = present_append s (lone m v) ∙ rw (length_lone, present_lone m v h)

-- ---- the next tally

-- it is known by its tails: as those of x before letter l, and then v
follow : (x s : List ℕ) (l m v : ℕ) → length s ≡ l → l + m ≡ length x → Follows x l v → ((k : ℕ) → k < l → total (drop k (s ++ lone m v)) ≡ total (drop k x)) → Next x (s ++ lone m v)
follow x s l m v e g f kept =
    record {
      letters = letters;
      rank = rw (same_tails (s ++ lone m v) f.next (letters ∙ sym f.letters) tails) f.rank;
    }
  where
    letters : length (s ++ lone m v) ≡ length x
    letters = rw (length-append, length_lone, e) g

    tails : (k : ℕ) → k < length (s ++ lone m v) → total (drop k (s ++ lone m v)) ≡ total (drop k f.next)
    tails k h =
        elim (dec_lt k l) [
          | yes b ↦ kept k b ∙ sym (f.kept k b)
          | no b ↦ lone_tail s m v k (omega arith) (omega (arith, letters)) ∙ sym (f.filled k (omega arith) (omega (arith, letters)))
        ]

-- all tiles of x are of its first letter: they go to the last letter, and one more
module _ (x z : List ℕ) (q v : ℕ) (f : suc q ≡ length x) (e : length z ≡ length x) (empty : total z ≡ 0) (none : total (drop 1 x) ≡ 0) (tiles : v ≡ suc (total x)) where
  is_lone : set z q v ≡ lone (length z) v
  is_lone = store_last z zero q v (f ∙ sym e) zero-le empty

  size_more : Next x (set z q v)
  size_more =
      rw is_lone (follow x [] zero (length z) v refl (omega (arith, zero-add (length z))) (rw tiles (follows_size x (omega arith) none)) (λ k h. absurd (not-suc-le-zero h)))

  size_next : Next x (set z q v) × (1 ≡ present (set z q v))
  size_next = (size_more, sym (ap present is_lone ∙ present_lone (length z) v (omega arith) ∙ mark_some v (λ g. omega arith)))

-- no tiles from l on, once those of letter l are gone
gone : (x : List ℕ) (l : ℕ) → l < length x → total (drop (suc l) x) ≡ 0 → total (drop l (set x l 0)) ≡ 0
gone x l h none =
    let inside : l < length (set x l 0) = omega (arith, length-set x l 0) in
    total_drop (set x l 0) l inside ∙ rw (get_or-set_same x l 0 0 h, drop-set-lt (suc l) x l 0 (omega arith), none)

-- letter l has no tiles, and the letter b before it one more
abbrev given : List ℕ → ℕ → ℕ → List ℕ
given x l b = set (set x l 0) b (get_or (set x l 0) b 0 + 1)

-- its others are of the last letter q
abbrev pub moved : List ℕ → ℕ → ℕ → ℕ → List ℕ
moved x l b q = set (given x l b) q (get_or x l 0 - 1)

-- the letters up to b, which has a tile more
abbrev front : List ℕ → ℕ → List ℕ
front x b = take b x ++ ((get_or x b 0 + 1) ∷ [])

module _ (x : List ℕ) (l b q : ℕ) (e : l ≡ suc b) (f : suc q ≡ length x) (inside : l ≤ q) (here : get_or x l 0 ≡ 0 → ⊥) (none : total (drop (suc l) x) ≡ 0) where
  front_is : take l (given x l b) ≡ front x b
  front_is =
      let h : b < length (set x l 0) = omega (arith, length-set x l 0) in
      ap (λ (k : ℕ). take k (given x l b)) e ∙ take-suc-set (set x l 0) b (get_or (set x l 0) b 0 + 1) h ∙ rw (take-set-le b x l 0 (omega arith), get_or-set_other x l b 0 0 (λ g. omega arith))

  given_letters : length (given x l b) ≡ length x
  given_letters = simp length-set

  moved_is : moved x l b q ≡ front x b ++ lone (length x - l) (get_or x l 0 - 1)
  moved_is =
      let empty : total (drop l (given x l b)) ≡ 0 = ap total (drop-set-lt l (set x l 0) b (get_or (set x l 0) b 0 + 1) (omega arith)) ∙ gone x l (omega arith) none in
      let m : length (drop l (given x l b)) ≡ length x - l = length-drop l (given x l b) ∙ ap (λ (n : ℕ). n - l) given_letters in
      store_last (given x l b) l q (get_or x l 0 - 1) (f ∙ sym given_letters) inside empty
      ∙ (λ i. front_is i ++ lone (m i) (get_or x l 0 - 1))

  front_letters : length (front x b) ≡ l
  front_letters = omega (arith, length-append (take b x) ((get_or x b 0 + 1) ∷ []), length-take-le b x (omega arith))

  tiles : total (drop (suc b) x) ≡ suc (get_or x l 0 - 1)
  tiles = ap (λ (k : ℕ). total (drop k x)) (sym e) ∙ omega (arith, total_drop x l (omega arith), here)

  kept : (k : ℕ) → k < l → total (drop k (front x b ++ lone (length x - l) (get_or x l 0 - 1))) ≡ total (drop k x)
  kept k h =
      let c : ℕ = get_or x b 0 in
      let v : ℕ = get_or x l 0 - 1 in
      let m : ℕ = length x - l in
      let t : total (lone m v) ≡ v = tail_lone m v zero (omega arith) in
      let same : total ((c + 1) ∷ lone m v) ≡ total (c ∷ drop (suc b) x) = omega (arith, t, tiles, total_cons (c + 1) (lone m v), total_cons c (drop (suc b) x)) in
      ap (λ (r : List ℕ). total (drop k r)) (append_snoc (take b x) (c + 1) (lone m v))
      ∙ same_front (take b x) ((c + 1) ∷ lone m v) (c ∷ drop (suc b) x) k (omega (arith, length-take-le b x (omega arith))) same
      ∙ ap (λ (r : List ℕ). total (drop k r)) (sym (split_at x b 0 (omega arith)))

  moved_next : Next x (moved x l b q)
  moved_next =
      let v : ℕ = get_or x l 0 - 1 in
      let next : Follows x l v = subst (λ (k : ℕ). Follows x k v) (sym e) (follows x b v (omega arith) (rw e at none) tiles) in
      rw moved_is (follow x (front x b) l (length x - l) v front_letters (omega arith) next kept)

  moved_letters : (rest : ℕ) → rest ≡ present (take l x) → (rest / 2 * 2 + 1) * 2 ^ (length x - l) + mark (get_or x l 0 - 1) ≡ present (moved x l b q)
  moved_letters rest g =
      let c : ℕ = get_or x b 0 in
      let m : ℕ = length x - l in
      let before : rest ≡ 2 * present (take b x) + mark c = g ∙ ap (λ (k : ℕ). present (take k x)) e ∙ present_suc x b (omega arith) in
      let there : rest / 2 * 2 + 1 ≡ present (front x b) = omega (arith, present_snoc (take b x) (c + 1), mark_some (c + 1) (λ z. omega arith), mark_one c) in
      sym (ap present moved_is ∙ present_last (front x b) m (get_or x l 0 - 1) (omega arith) ∙ ap (λ (k : ℕ). k * 2 ^ m + mark (get_or x l 0 - 1)) (sym there))

-- ---- by the last letter that is there

-- none
pub none_next : (x : List ℕ) → 0 < length x → present x ≡ 0 → Next x (set x (length x - 1) 1) × (1 ≡ present (set x (length x - 1) 1))
none_next x h e =
    let absent = none_present x (length x) (omega arith) (ap present (take-length x) ∙ e) in
    let empty : total x ≡ 0 = none_after x zero absent.none in
    size_next x x (length x - 1) 1 (omega arith) refl empty (omega (arith, total_drop x zero h)) (omega arith)

module _ (x : List ℕ) (stop rest : ℕ) (run : RunAt x (length x) stop rest) where
  run_inside : stop - 1 < length x
  run_inside = let some : stop ≡ 0 → ⊥ = run.some in omega (arith, run.inside)

  none_later : total (drop (suc (stop - 1)) x) ≡ 0
  none_later = none_after x (suc (stop - 1)) (λ k a b. run.absent.none k (omega arith) b)

  -- the first
  pub first_next : stop - 1 ≡ 0
      → Next x (set (set x (stop - 1) 0) (length x - 1) (get_or x (stop - 1) 0 + 1)) × (1 ≡ present (set (set x (stop - 1) 0) (length x - 1) (get_or x (stop - 1) 0 + 1)))
  first_next e =
      let some : 0 < length x = omega (arith, run_inside) in
      let none : total (drop 1 x) ≡ 0 = rw e at none_later in
      rw e (size_next x (set x 0 0) (length x - 1) (get_or x 0 0 + 1) (omega arith) (length-set x 0 0) (gone x 0 some none) none (omega (arith, total_drop x zero some)))

  -- a later one
  module _ (later : stop - 1 ≡ 0 → ⊥) where
    pub later_next : Next x (moved x (stop - 1) (stop - 1 - 1) (length x - 1))
    later_next = moved_next x (stop - 1) (stop - 1 - 1) (length x - 1) (omega arith) (omega (arith, run_inside)) (omega (arith, run_inside)) run.here none_later

    pub later_letters : (rest / 2 * 2 + 1) * 2 ^ (length x - (stop - 1)) + mark (get_or x (stop - 1) 0 - 1) ≡ present (moved x (stop - 1) (stop - 1 - 1) (length x - 1))
    later_letters =
        moved_letters x (stop - 1) (stop - 1 - 1) (length x - 1) (omega arith) (omega (arith, run_inside)) (omega (arith, run_inside)) run.here none_later rest run.before

    -- its word fits
    pub later_fits : length x ≤ 64 → (rest / 2 * 2 + 1) * 2 ^ (length x - (stop - 1)) + mark (get_or x (stop - 1) 0 - 1) < 2 ^ 64
    later_fits few =
        let y : List ℕ = moved x (stop - 1) (stop - 1 - 1) (length x - 1) in
        let l : length y ≤ 64 = omega (arith, later_next.letters) in
        omega (arith, later_letters, present_below y, pow_mono l)
