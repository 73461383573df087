-- No blank is left: the first tiles are all real, and what their letters add to a rank is made once for each run of the sorted tiles. Assumes nothing.
use Rattle.std.specs.Prelude.{◌≡◌, refl, ◌⊎◌, List, [], ℕ, zero, suc, ◌+◌, ◌-◌, ◌≤◌, ◌<◌, ℤ, length, get_or, set}
use Rattle.std.proofs.Common.{sym, ap, ap₂, ◌∙◌, inl, inr, add-zero, zero-add, eq-or-lt_of_le, arith, length-set, get_or-set_same, get_or-set_other}
use Rattle.std.proofs.Math.Nat.{sub-zero}
use Rattle.std.proofs.Math.Decide.{dec_lt, le_ind}
use Rattle.lattice.specs.Tally.{total_nil, within_nil}
use Rattle.lattice.specs.Step.{step, step_none}
use Rattle.maxima.specs.Maxima.{raise}
use Rattle.runs.specs.Runs.{Absent}
use Rattle.blanks.specs.Variants.{count}
use Rattle.blanks.specs.Raise.{Raised}
use Rattle.blanks.specs.Tallied.{Tallied, counted, counted_suc, counted_mono, counted_all, counted_whole, counted_below, counted_above}
use Rattle.blanks.specs.Ready.{Suffix, Board, Ready, Heads, Finds, in_order, small_rank, suffix_zeros, suffix_cons, run_fits, real_ready, real_done, none_real, end_below, end_done}

-- what the letters from 1 to i add to a rank where all their tiles are real: of m letters, with so many real tiles in all
unfoldable pub tail_of : (ls : List ℕ) (m real i : ℕ) → ℕ
tail_of ls m real zero = 0
tail_of ls m real (suc i) = tail_of ls m real i + step (m - suc i) (real - counted (suc i) ls) (count (suc i) ls)

tail_zero : (ls : List ℕ) (m real : ℕ) → tail_of ls m real 0 ≡ 0
unfolding tail_of
tail_zero ls m real = refl

tail_suc : (ls : List ℕ) (m real i : ℕ) → tail_of ls m real (suc i) ≡ tail_of ls m real i + step (m - suc i) (real - counted (suc i) ls) (count (suc i) ls)
unfolding tail_of
tail_suc ls m real i = refl

-- none of these letters has more tiles than are unseen
pub record Unforced (ls unseen : List ℕ) (i : ℕ) : Type 0 where
  pub each : (l : ℕ) → l < i → count (suc l) ls ≤ get_or unseen (suc l) 0

-- one of them has
pub record Forcing (ls unseen : List ℕ) (i : ℕ) : Type 0 where
  pub letter : ℕ
  pub below : letter < i
  pub more : get_or unseen (suc letter) 0 < count (suc letter) ls

-- at the end of each run of the first s tiles stands what the tiles up to it add, and they force no blank
abbrev pub Right : (ls unseen : List ℕ) (m real : ℕ) (tails : List ℕ) (s : ℕ) → Type 0
Right ls unseen m real tails s = (i : ℕ) → i ≤ m → counted (suc i) ls ≤ s → (get_or tails (counted (suc i) ls) 0 ≡ tail_of ls m real i) × Unforced ls unseen i

-- so it is for the first `free` tiles, and any more that can all be real force one
pub record Tails (ls unseen : List ℕ) (m real : ℕ) (tails : List ℕ) (free : ℕ) : Type 0 where
  pub right : Right ls unseen m real tails free
  pub stops : (i : ℕ) → i ≤ m → free < counted (suc i) ls → counted (suc i) ls ≤ real → Unforced ls unseen i → ⊥

-- some letter is it then
forcing : (ls unseen : List ℕ) (i : ℕ) → (Unforced ls unseen i → ⊥) → Forcing ls unseen i
forcing ls unseen zero f = absurd (f (record { each = λ l h. absurd (omega arith) }))
forcing ls unseen (suc i) f = by (dec_lt (get_or unseen (suc i) 0) (count (suc i) ls)) (λ g. forcing ls unseen i g)
  where
    by : Dec (get_or unseen (suc i) 0 < count (suc i) ls) → ((Unforced ls unseen i → ⊥) → Forcing ls unseen i) → Forcing ls unseen (suc i)
    by (yes h) rest = record { letter = i; below = omega arith; more = h }
    by (no h) rest =
        let g = rest (λ u. f (record { each = λ l a. each u l (eq-or-lt_of_le (omega arith)) })) in
        let b = g.below in
        record { letter = g.letter; below = omega arith; more = g.more }
      where
        each : Unforced ls unseen i → (l : ℕ) → (l ≡ i) ⊎ (l < i) → count (suc l) ls ≤ get_or unseen (suc l) 0
        each u l (inl e) = rw e (omega arith)
        each u l (inr a) = u.each l a

-- ---- what they are for

none_before : (t : List ℕ) → Absent t 0 0
none_before t = record { none = λ k a b. absurd (omega arith) }

module _ {cells : ℕ} {ls : List ℕ} {ds : List ℤ} {unseen tally : List ℕ} {k : ℕ} {v : ℤ} where
  -- letter i + 1, with all its tiles real
  module _ {i last after w : ℕ} (ready : Ready cells ls ds unseen tally (suc i) last k after w v) where
    own : get_or tally i 0 ≡ count (suc i) ls
    own = ready.tallied.counts i ready.top

    whole : get_or tally i 0 ≡ last - (last - get_or tally i 0)
    whole = omega (arith, run_fits ready refl refl)

    tail_next : {real : ℕ} → last + after ≡ real → w + step (length tally - suc i) (after + get_or tally i 0) (get_or tally i 0) + tail_of ls (length tally) real i ≡ w + tail_of ls (length tally) real (suc i)
    tail_next {real} e =
        let u = ready.upto in
        let c = own in
        let a : after + get_or tally i 0 ≡ real - counted (suc i) ls = omega (arith, counted_suc (suc i) ls) in
        rw tail_suc (omega (arith, ap₂ (step (length tally - suc i)) a c))

  module _ {heads : List ℕ} {most : ℕ} (known : Heads heads (length unseen) (length ls) most) (few : k ≤ most) where
    -- every letter can be real: one place is raised
    tail_raised : (i : ℕ) {last after w real : ℕ} → Ready cells ls ds unseen tally i last k after w v → last + after ≡ real → Unforced ls unseen i
        → (get_or heads k 0 + (w + tail_of ls (length tally) real i) < cells) × ((s : List ℤ) → Raised s (Finds ls ds unseen i last 0 k after w v) (raise s (get_or heads k 0 + (w + tail_of ls (length tally) real i)) v))
    tail_raised zero ready e u =
        rw (tail_zero, add-zero) (end_below ready (none_before tally) known few, λ s. end_done ready (none_before tally) known few 0 s)
    tail_raised (suc i) {last} {after} {w} {real} ready e u =
        let x = get_or tally i 0 in
        let c = own ready in
        let fits : x ≤ get_or unseen (suc i) 0 = rw c (u.each i (omega arith)) in
        let r = tail_raised i {real = real} (real_ready ready refl refl (whole ready) fits refl) (omega (arith, e, run_fits ready refl refl)) (record { each = λ l h. u.each l (omega arith) }) in
        rw (← tail_next ready e) (r.0, λ s. real_done ready refl refl (whole ready) fits refl (r.1 s))

  -- a letter has more tiles than are unseen: there is no play
  tail_none : (i : ℕ) {last after w : ℕ} → Ready cells ls ds unseen tally i last k after w v → Forcing ls unseen i → (s : List ℤ) → Raised s (Finds ls ds unseen i last 0 k after w v) s
  tail_none zero ready f s = absurd (let h = f.below in omega arith)
  tail_none (suc i) {last} {after} {w} ready f s = by (dec_lt (get_or unseen (suc i) 0) (get_or tally i 0)) (λ last' after' w' r g. tail_none i r g s)
    where
      -- another letter is it
      lower : get_or tally i 0 ≤ get_or unseen (suc i) 0 → (f.letter ≡ i) ⊎ (f.letter < i) → Forcing ls unseen i
      lower h (inl e) = absurd (let m : get_or unseen (suc i) 0 < count (suc i) ls = rw e at f.more in let c = own ready in omega arith)
      lower h (inr l) = record { letter = f.letter; below = l; more = f.more }

      by : Dec (get_or unseen (suc i) 0 < get_or tally i 0)
          → ((last' after' w' : ℕ) → Ready cells ls ds unseen tally i last' k after' w' v → Forcing ls unseen i → Raised s (Finds ls ds unseen i last' 0 k after' w' v) s)
          → Raised s (Finds ls ds unseen (suc i) last 0 k after w v) s
      by (yes h) rest = none_real ready refl refl (whole ready) s h
      by (no h) rest =
          let fits : get_or tally i 0 ≤ get_or unseen (suc i) 0 = omega arith in
          let l = f.below in
          real_done ready refl refl (whole ready) fits refl (rest _ _ _ (real_ready ready refl refl (whole ready) fits refl) (lower fits (eq-or-lt_of_le (omega arith))))

  -- by the tails
  module _ {i last after w : ℕ} (ready : Ready cells ls ds unseen tally i last k after w v) {tails : List ℕ} {free : ℕ} (made : Tails ls unseen (length tally) (length ls - k) tails free) where
    pub real_raised : {heads : List ℕ} {most : ℕ} → Heads heads (length unseen) (length ls) most → k ≤ most → last ≤ free
        → (get_or heads k 0 + (w + get_or tails last 0) < cells) × ((s : List ℤ) → Raised s (Finds ls ds unseen i last 0 k after w v) (raise s (get_or heads k 0 + (w + get_or tails last 0)) v))
    real_raised known few h =
        let u = ready.upto in
        let t = ready.tiles in
        let r = made.right i ready.top (omega arith) in
        let e : get_or tails last 0 ≡ tail_of ls (length tally) (length ls - k) i = ap (λ (x : ℕ). get_or tails x 0) u ∙ r.0 in
        rw e (tail_raised known few i ready (omega arith) r.1)

    pub real_none : free < last → (s : List ℤ) → Raised s (Finds ls ds unseen i last 0 k after w v) s
    real_none h =
        let u = ready.upto in
        let t = ready.tiles in
        tail_none i ready (forcing ls unseen i (made.stops i ready.top (omega arith) (omega arith)))

-- ---- how they are made

-- letters without tiles add nothing
tail_same : (ls : List ℕ) (m real j i : ℕ) → j ≤ i → counted (suc i) ls ≡ counted (suc j) ls → tail_of ls m real i ≡ tail_of ls m real j
tail_same ls m real j = le_ind (λ (i : ℕ). counted (suc i) ls ≡ counted (suc j) ls → tail_of ls m real i ≡ tail_of ls m real j) (λ e. refl) more
  where
    more : (i : ℕ) → j ≤ i → (counted (suc i) ls ≡ counted (suc j) ls → tail_of ls m real i ≡ tail_of ls m real j) → counted (suc (suc i)) ls ≡ counted (suc j) ls → tail_of ls m real (suc i) ≡ tail_of ls m real j
    more i h rest e =
        let a = counted_mono {i = suc j} {j = suc i} ls (omega arith) in
        let z : count (suc i) ls ≡ 0 = omega (arith, counted_suc (suc i) ls) in
        rw (tail_suc, z, step_none) (omega (arith, rest (omega (arith, counted_suc (suc i) ls))))

-- and force none
unforced_same : (ls unseen : List ℕ) {j i : ℕ} → j ≤ i → counted (suc i) ls ≡ counted (suc j) ls → Unforced ls unseen j → Unforced ls unseen i
unforced_same ls unseen {j} {i} h e u = record { each = λ l a. by l a (dec_lt l j) }
  where
    by : (l : ℕ) → l < i → Dec (l < j) → count (suc l) ls ≤ get_or unseen (suc l) 0
    by l a (yes b) = u.each l b
    by l a (no b) =
        let c = counted_mono {i = suc j} {j = suc l} ls (omega arith) in
        let d = counted_mono {i = suc (suc l)} {j = suc i} ls (omega arith) in
        omega (arith, counted_suc (suc l) ls)

-- the runs before s are made: s is where the tiles of the letters up to `stop` end, and they add so much
pub record Tailing (ls unseen : List ℕ) (m real : ℕ) (tails : List ℕ) (s rank : ℕ) : Type 0 where
  pub size : length tails ≡ 16
  pub most : s ≤ real
  pub stop : ℕ
  pub ends : s ≡ counted (suc stop) ls
  pub right : Right ls unseen m real tails s
  pub sum : rank ≡ get_or tails s 0

module _ {cells : ℕ} {ls : List ℕ} {ds : List ℤ} {unseen tally : List ℕ} (board : Board cells ls ds unseen) (width : suc (length tally) ≡ length unseen) (tallied : Tallied ls tally)
    {real : ℕ} (inside : real ≤ length ls) where
  none_low : counted 1 ls ≡ 0
  none_low = by (counted 1 ls) refl
    where
      by : (c : ℕ) → counted 1 ls ≡ c → counted 1 ls ≡ 0
      by zero e = e
      by (suc c) e =
          let h : 0 < counted 1 ls = omega arith in
          let a = counted_below 1 ls (in_order board) 0 h in
          let b = (board.real 0 (omega (arith, counted_all 1 ls))).0 in
          absurd (omega arith)

  pub tailing_none : (tails : List ℕ) → length tails ≡ 16 → get_or tails 0 0 ≡ 0 → Tailing ls unseen (length tally) real tails 0 0
  tailing_none tails z e =
      record {
        size = z;
        most = omega arith;
        stop = 0;
        ends = sym none_low;
        right = λ i h l.
            let n = none_low in
            let c : counted (suc i) ls ≡ 0 = omega arith in
            let d = c ∙ sym n in
            (rw c (e ∙ sym (tail_same ls (length tally) real 0 i (omega arith) d ∙ tail_zero ls (length tally) real)), unforced_same ls unseen {j = 0} (omega arith) d (record { each = λ l a. absurd (omega arith) }));
        sum = sym e;
      }

  -- ---- the ranks are those of tallies

  -- some real tiles of the letters after i
  suffix_some : (i : ℕ) → i ≤ length tally → (w : ℕ) × Suffix (length tally - i) (real - counted (suc i) ls) w
  suffix_some i h = by (dec_lt i (length tally))
    where
      empty : Suffix 0 0 0
      empty = record { counts = []; letters = refl; tiles = total_nil; rank = within_nil }

      by : Dec (i < length tally) → (w : ℕ) × Suffix (length tally - i) (real - counted (suc i) ls) w
      by (yes l) =
          let e : suc (0 + (length tally - suc i)) ≡ length tally - i = omega arith in
          (_, rw (e, zero-add) at (suffix_cons (real - counted (suc i) ls) (suffix_zeros 0 (length tally - suc i) 0 0 empty)))
      by (no l) =
          let all = counted_whole (suc i) ls (λ j k. let b = (board.real j k).1 in omega arith) in
          let a : length tally - i ≡ 0 = omega arith in
          let b : real - counted (suc i) ls ≡ 0 = omega arith in
          (0, rw (a, b) empty)

  -- and all tiles of those up to i before them
  suffix_tail : (i : ℕ) {w : ℕ} → i ≤ length tally → counted (suc i) ls ≤ real → Suffix (length tally - i) (real - counted (suc i) ls) w → Suffix (length tally) (real - counted 1 ls) (w + tail_of ls (length tally) real i)
  suffix_tail zero h l s = rw (tail_zero, add-zero) (rw sub-zero at s)
  suffix_tail (suc i) {w} h l s =
      let c = counted_suc (suc i) ls in
      let x = count (suc i) ls in
      let a : suc (length tally - suc i) ≡ length tally - i = omega arith in
      let b : real - counted (suc (suc i)) ls + x ≡ real - counted (suc i) ls = omega arith in
      let d : w + step (length tally - suc i) (real - counted (suc i) ls) x + tail_of ls (length tally) real i ≡ w + tail_of ls (length tally) real (suc i) = rw tail_suc (omega arith) in
      rw (← d) (suffix_tail i (omega arith) (omega arith) (rw (a, b) at (suffix_cons x s)))

  -- a rank is below the sheet's length
  tail_below : (i : ℕ) → i ≤ length tally → counted (suc i) ls ≤ real → tail_of ls (length tally) real i < cells
  tail_below i h l =
      let p = suffix_some i h in
      let s = suffix_tail i h l p.1 in
      let a = s.letters in
      let b = s.tiles in
      let z = board.sheet in
      omega (arith, s.rank, small_rank (length unseen) (length ls) s.counts (omega arith) (omega arith))

  -- ---- the run from s on

  module _ {tails : List ℕ} {s rank : ℕ} (here : Tailing ls unseen (length tally) real tails s rank) where
    -- all runs are made
    pub tails_all : real ≤ s → Tails ls unseen (length tally) real tails s
    tails_all h = record { right = here.right; stops = λ i a b c. absurd (omega arith) }

    module _ (more : s < real) {b x : ℕ} (is : get_or ls s 0 ≡ suc b) (run : x ≡ get_or tally b 0) where
      pub letter_low : b < length tally
      letter_low = let h = (board.real s (omega arith)).1 in omega arith

      own_count : x ≡ count (suc b) ls
      own_count = run ∙ tallied.counts b letter_low

      begins : s ≡ counted (suc b) ls
      begins =
          let e = here.ends in
          let a = counted_above (suc here.stop) ls (in_order board) s (omega arith) (omega arith) in
          let c = counted_mono {i = suc here.stop} {j = suc b} ls (omega arith) in
          by (dec_lt s (counted (suc b) ls)) (omega arith)
        where
          by : Dec (s < counted (suc b) ls) → s ≤ counted (suc b) ls → s ≡ counted (suc b) ls
          by (yes h) l = absurd (let g = counted_below (suc b) ls (in_order board) s h in omega arith)
          by (no h) l = omega arith

      run_ends : s + x ≡ counted (suc (suc b)) ls
      run_ends = let e = begins in let c = own_count in omega (arith, counted_suc (suc b) ls)

      pub run_some : s < s + x
      run_some = by (dec_lt s (s + x))
        where
          by : Dec (s < s + x) → s < s + x
          by (yes h) = h
          by (no h) = absurd (let e = run_ends in let g = counted_above (suc (suc b)) ls (in_order board) s (omega arith) (omega arith) in omega arith)

      -- tiles after s are of this letter or of higher ones
      later : (i : ℕ) → s < counted (suc i) ls → suc b ≤ i
      later i h = by (dec_lt i (suc b))
        where
          by : Dec (i < suc b) → suc b ≤ i
          by (yes l) = absurd (let e = begins in let c = counted_mono {i = suc i} {j = suc b} ls (omega arith) in omega arith)
          by (no l) = omega arith

      -- the run has more tiles than can be real, or than are unseen
      pub tails_high : real < s + x → Tails ls unseen (length tally) real tails s
      tails_high h =
          record {
            right = here.right;
            stops = λ i a g c. absurd (let e = run_ends in let l = later i g in let d = counted_mono {i = suc (suc b)} {j = suc i} ls (omega arith) in omega arith);
          }

      pub tails_forced : get_or unseen (suc b) 0 < x → Tails ls unseen (length tally) real tails s
      tails_forced h =
          record {
            right = here.right;
            stops = λ i a g c u. absurd (let e = own_count in let l = u.each b (later i g) in omega arith);
          }

      module _ (fits : s + x ≤ real) where
        -- what the tiles up to its end add
        tail_run : rank + step (length tally - suc b) (real - (s + x) + x) x ≡ tail_of ls (length tally) real (suc b)
        tail_run =
            let e = begins in
            let l = letter_low in
            let r = (here.right b (omega arith) (omega arith)).0 in
            let a : real - (s + x) + x ≡ real - counted (suc b) ls = omega arith in
            let d : get_or tails s 0 ≡ tail_of ls (length tally) real b = ap (λ (k : ℕ). get_or tails k 0) e ∙ r in
            rw tail_suc (omega (arith, here.sum, ap₂ (step (length tally - suc b)) a own_count))

        pub tailing_below : rank + step (length tally - suc b) (real - (s + x) + x) x < cells
        tailing_below = rw tail_run (tail_below (suc b) letter_low (rw (← run_ends) fits))

        pub tailing_more : {y : ℕ} → x ≤ get_or unseen (suc b) 0 → y ≡ rank + step (length tally - suc b) (real - (s + x) + x) x
            → Tailing ls unseen (length tally) real (set tails (s + x) y) (s + x) y
        tailing_more {y} free e =
            record {
              size = length-set tails _ y ∙ here.size;
              most = fits;
              stop = suc b;
              ends = run_ends;
              right = λ i h l. by i h l (dec_lt s (counted (suc i) ls));
              sum = sym here_is;
            }
          where
            here_is : get_or (set tails (s + x) y) (s + x) 0 ≡ y
            here_is = get_or-set_same tails (s + x) y 0 (let z = here.size in let f = board.few in omega arith)

            own_free : Unforced ls unseen (suc b)
            own_free = record { each = λ l a. each l (eq-or-lt_of_le (omega arith)) }
              where
                each : (l : ℕ) → (l ≡ b) ⊎ (l < b) → count (suc l) ls ≤ get_or unseen (suc l) 0
                each l (inl q) = rw (q, ← own_count) free
                each l (inr a) = let g = begins in (here.right b (let h = letter_low in omega arith) (omega arith)).1.each l a

            by : (i : ℕ) → i ≤ length tally → counted (suc i) ls ≤ s + x → Dec (s < counted (suc i) ls)
                → (get_or (set tails (s + x) y) (counted (suc i) ls) 0 ≡ tail_of ls (length tally) real i) × Unforced ls unseen i
            by i h l (no a) =
                let old = here.right i h (omega arith) in
                let g = run_some in
                (get_or-set_other tails (s + x) (counted (suc i) ls) y 0 (λ q. omega arith) ∙ old.0, old.1)
            by i h l (yes a) =
                let k = later i a in
                let d = counted_mono {i = suc (suc b)} {j = suc i} ls (omega arith) in
                let f = run_ends in
                let c : counted (suc i) ls ≡ s + x = omega arith in
                let q = c ∙ f in
                (ap (λ (t : ℕ). get_or (set tails (s + x) y) t 0) c ∙ here_is ∙ e ∙ tail_run ∙ sym (tail_same ls (length tally) real (suc b) i k q), unforced_same ls unseen k q own_free)
