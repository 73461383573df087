-- From what the naive search finds to its answer. Assumes nothing.
use mathlib.Core.Path.{◌≡◌, refl, sym, ap, ap₂, ◌∙◌, subst}
use mathlib.Core.Bool.{Bool, true, false, cond}
use mathlib.Core.List.{List}
use Prim.Native.Nat.{ℕ, ◌+◌}
use native.Mathlib.Omega.{arith}
use lib.IntN.{ℤ, pos, ◌+ℤ◌}
use lib.ListN.{length, get_or}
use lib.Signed.{lt_z, lt_z_yes}
use Rattle.laws.specs.Integer.{+ℤ-parts, <ℤ-parts, parts-<ℤ}
use Rattle.laws.specs.Tests.{T-ext}
use Rattle.binomials.specs.Binomial.{binomial}
use Rattle.lattice.specs.Answers.{served}
use Rattle.lattice.specs.Tally.{rank_of, Within, minus}
use Rattle.lattice.specs.Parts.{part_length, part_total, rest_within}
use Rattle.search.specs.Split.{worth, best_split, parts_small}
use Rattle.search.specs.Naive.{played_of, played_first, first_unique}
use Rattle.search.specs.NaiveWalk.{FoundFirst, first_best, naive_first}
use Rattle.search.specs.NaiveKept.{KeptAfter, LeaveReady}
use Rattle.search.specs.Refusals.{or_else, or_first, entries_number, entries_0, entries_5, naive_sizes, naive_number, naive_sized}
use Rattle.search.specs.Answers.{given, given_refused, word, exchange, move_value, kind_of, move_kind, refusal, Played}
use Rattle.search.specs.declared.Kept.{Kept}
use Rattle.search.specs.declared.calls.Play.{Play}
use Rattle.search.specs.declared.calls.Kind.TheVariants.{Word, Exchange}
use Rattle.refusal.specs.Refusal.{code_of, code_some, number_of}
use Rattle.refusal.specs.declared.Refusal.{Refusal}
use Rattle.refusal.specs.declared.Refusal.TheVariants.{Entry}
use Rattle.std.specs.Prelude.{Option, Some, None, Result, Ok, Err, MatchOption, ok_or}

-- the best is above the value of what is kept exactly where the sheet's entry is above 0
above_kept : (x y : ℤ) → lt_z y (x +ℤ y) ≡ lt_z (pos 0) x
above_kept x y =
    T-ext (lt_z y (x +ℤ y)) (lt_z (pos 0) x)
    (λ h. (parts-<ℤ (pos 0) x (omega (arith, <ℤ-parts {a = y} {b = x +ℤ y} (lt_z_yes h), +ℤ-parts x y))).lt)
    (λ h. (parts-<ℤ y (x +ℤ y) (omega (arith, <ℤ-parts {a = pos 0} {b = x} (lt_z_yes h), +ℤ-parts x y))).lt)

-- the refusal of an answer, where it has one
refusal_of : Result Kept Refusal → Refusal
refusal_of (Ok f) = Entry
refusal_of (Err e) = e

-- the kind of a play
kind_told : (c : Bool) → kind_of (cond c Word Exchange) ≡ cond c word exchange
unfolding kind_of
kind_told true = refl
kind_told false = refl

module _ (n r : ℕ) (sheet leave : List ℤ) (t entry : List ℕ) where
  -- whether the move is a word
  abbrev is_word : Bool
  is_word = lt_z (pos 0) (get_or sheet (rank_of n (played_of sheet leave n t)) (pos 0))

  -- the number of the call
  abbrev number : ℕ
  number = refusal n r sheet leave t entry

  -- the play of an accepted call
  abbrev play : Play
  play = record { best = best_split sheet leave n t; kind = cond is_word Word Exchange }

  accepted : number ≡ 0 → {b : Result Play Refusal} {exit : List ℕ} → b ≡ Ok play → exit ≡ minus t (played_of sheet leave n t) → Played n r sheet leave t entry b exit
  unfolding given move_value move_kind
  accepted z e rest =
      rw e (record {
        is = λ _. refl;
        numbered = sym z;
        valued = rw z refl;
        kind = rw z (kind_told is_word);
        rest = rw z rest;
      })

  refused : {b : Result Play Refusal} (e : Refusal) → b ≡ Err e → code_of e ≡ number → Played n r sheet leave t entry b entry
  unfolding move_value move_kind
  refused e is k =
      let some = λ (z : number ≡ 0). code_some e (k ∙ z) in
      rw is (record {
        is = λ z. absurd (some z);
        numbered = k;
        valued = sym (given_refused number _ _ some);
        kind = sym (given_refused number _ _ some);
        rest = sym (given_refused number _ _ some);
      })

  pub sizes_refused : {b : Result Play Refusal} (e : Refusal) → b ≡ Err e → code_of e ≡ naive_sizes n r (length sheet) (length leave) t (length entry) → Played n r sheet leave t entry b entry
  unfolding naive_number
  sizes_refused e is k = refused e is (k ∙ sym (or_first (entries_number sheet leave n t) (λ z. code_some e (k ∙ z))))

  module _ (none : naive_sizes n r (length sheet) (length leave) t (length entry) ≡ 0) where
    letters : length t ≡ n
    letters = (naive_sized n r (length sheet) (length leave) t (length entry) none).0.letters

    pub naive_beyond : parts_small sheet leave (length t) t ≡ false → Played n r sheet leave t entry (Err Entry) entry
    unfolding naive_number or_else
    naive_beyond h =
        refused Entry refl (sym (ap₂ or_else none (entries_5 sheet leave n t (subst (λ (k : ℕ). parts_small sheet leave k t ≡ false) letters h))))

    pub naive_refused : (o : Option Kept) {e : Refusal} → MatchOption o (parts_small sheet leave (length t) t ≡ false) (FoundFirst sheet leave (length t) t) → Err e ≡ ok_or o Entry → Played n r sheet leave t entry (Err e) entry
    unfolding refusal_of
    naive_refused (Some f) {e = e} m q = absurd (code_some e (ap number_of q))
    naive_refused None {e = e} m q = let same : e ≡ Entry = ap refusal_of q in rw same (naive_beyond m)

    module _ {f : Kept} (g : FoundFirst sheet leave (length t) t f) where
      found_here : FoundFirst sheet leave n t f
      found_here = subst (λ (k : ℕ). FoundFirst sheet leave k t f) letters g

      is_best : f.value ≡ best_split sheet leave n t
      is_best = first_best found_here

      none_refused : number ≡ 0
      unfolding naive_number or_else
      none_refused = ap₂ or_else none (entries_0 sheet leave n t found_here.small)

      module _ {exit : List ℕ} (w : KeptAfter t f.rank exit) where
        -- the kept tally
        pub rest_is : exit ≡ minus t (played_of sheet leave n t)
        rest_is =
            let p = naive_first sheet leave n t found_here.first found_here.small is_best in
            w.is p.0 p.1.inside p.2 ∙ ap (minus t) (first_unique p.1 (played_first sheet leave n t))

        rest_within_rack : Within exit t
        rest_within_rack = subst (λ (k : List ℕ). Within k t) (sym rest_is) (rest_within (played_of sheet leave n t) t (played_first sheet leave n t).inside)

        rest_letters : length exit ≡ n
        rest_letters = part_length exit t rest_within_rack ∙ letters

        -- it has an entry in the leave
        pub rest_ready : LeaveReady r leave exit
        rest_ready =
            let s = (naive_sized n r (length sheet) (length leave) t (length entry) none).0 in
            record {
              sizes = ap (λ (k : ℕ). served k r) rest_letters ∙ s.serves;
              tiles = omega (arith, part_total exit t rest_within_rack, s.tiles);
              in_leave = s.in_leave ∙ ap (λ (k : ℕ). binomial (k + r) k) (sym rest_letters);
            }

        -- and the best is above that entry exactly where the move is a word
        above_is : lt_z (get_or leave (rank_of (length exit) exit) (pos 0)) f.value ≡ is_word
        unfolding worth
        above_is =
            let p = played_of sheet leave n t in
            let b = played_first sheet leave n t in
            (λ i. lt_z (get_or leave (rank_of (rest_letters i) (rest_is i)) (pos 0)) ((is_best ∙ sym b.best) i)) ∙ above_kept (get_or sheet (rank_of n p) (pos 0)) (get_or leave (rank_of n (minus t p)) (pos 0))

        pub naive_moved : {b : Result Play Refusal} {above : Bool} → above ≡ lt_z (get_or leave (rank_of (length exit) exit) (pos 0)) f.value → b ≡ Ok (record { best = f.value; kind = cond above Word Exchange }) → Played n r sheet leave t entry b exit
        naive_moved h e =
            accepted none_refused (e ∙ (λ i. Ok (record { best = is_best i; kind = cond ((h ∙ above_is) i) Word Exchange }))) rest_is
