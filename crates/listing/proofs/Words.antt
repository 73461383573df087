-- From the bytes of a text to the numbers that were taken of it.
use Rattle.std.proofs.Common.{take, drop, get_or, length, subst, drop-cons, take-append-drop, ◌≡◌, ℕ, zero, suc, ◌*◌, ◌^◌, ◌<◌, ◌≤◌, Bool, true, false, cond, ltb, List, [], ◌∷◌, ◌++◌, map, ℤ, pos, negsuc, Result, Ok, Err, Some, None, OnOk, IfErr, sym, refl, ap, ap₂, ◌∙◌, append_assoc, append-nil, arith, ltb-false, le-ltb}
use mathlib.Core.List.{foldl-append, map-append}
use mathlib.Core.Option.{Option, none, some}
use Rattle.std.specs.declared.option.Option.{Option as Maybe}
use Rattle.refusal.specs.declared.Refusal.{Refusal}
use Rattle.refusal.specs.declared.Refusal.TheVariants.{Length}
use Rattle.text.specs.Text.{is_blank, read_integer, tokens}
use Rattle.text.specs.Scan.{malformed, step_of, ended_of, scan, said, given as handed_by, handed, word_of}
use Rattle.text.specs.declared.reader.Malformed.{Malformed}
use Rattle.text.specs.declared.reader.Reader.{Reader}
use Rattle.text.specs.declared.reader.Reader.TheVariants.{Between}
use Rattle.text.proofs.Joining.{handed_words, given-append}
use Rattle.listing.specs.declared.session.Session.{Session}
use Rattle.listing.specs.Sizes.{cells_of}
use Rattle.listing.specs.Reading.{below, entry, with_count, with_entry, body, accepted, judge, sized, reading_of, reading, refusal, whole, IsRefusedAfter, IsRefused}
use Rattle.listing.specs.Taken.{numbers_of, Accepting, SoFar}
use Rattle.listing.proofs.Numbers.{malformed_refused}

-- a token's number, where it is one of at most 64 bits
abbrev number_in : Result ℤ Malformed → Option ℤ
number_in (Ok z) = some z
number_in (Err e) = none

narrow : Option ℤ → Option ℤ
narrow z = number_in (word_of z)

-- ---- a number of more than 64 bits is as good as none

below_narrow : (l : ℕ) → l ≤ 2 ^ 64 → (z : Option ℤ) → below l (narrow z) ≡ below l z
unfolding narrow
below_narrow l h none = refl
below_narrow l h (some (pos n)) = go (ltb n (2 ^ 64)) refl
  where
    go : (t : Bool) → ltb n (2 ^ 64) ≡ t → below l (number_in (cond t (Ok (pos n)) (Err malformed))) ≡ cond (ltb n l) (some n) none
    go true e = refl
    go false e = let far : 2 ^ 64 ≤ n = ltb-false n (2 ^ 64) e in sym (simp (le-ltb n l (omega arith)))
below_narrow l h (some (negsuc n)) = go (ltb (suc n) (2 ^ 64))
  where
    go : (t : Bool) → below l (number_in (cond t (Ok (negsuc n)) (Err malformed))) ≡ none
    go true = refl
    go false = refl

entry_narrow : (z : Option ℤ) → entry (narrow z) ≡ entry z
unfolding narrow
entry_narrow none = refl
entry_narrow (some (pos n)) = go (ltb n (2 ^ 64)) refl
  where
    go : (t : Bool) → ltb n (2 ^ 64) ≡ t → entry (number_in (cond t (Ok (pos n)) (Err malformed))) ≡ cond (ltb n (2 ^ 31)) (some (pos n)) none
    go true e = refl
    go false e = let far : 2 ^ 64 ≤ n = ltb-false n (2 ^ 64) e in sym (simp (le-ltb n (2 ^ 31) (omega arith)))
entry_narrow (some (negsuc n)) = go (ltb (suc n) (2 ^ 64)) refl
  where
    go : (t : Bool) → ltb (suc n) (2 ^ 64) ≡ t → entry (number_in (cond t (Ok (negsuc n)) (Err malformed))) ≡ cond (ltb n (2 ^ 31)) (some (negsuc n)) none
    go true e = refl
    go false e = let far : 2 ^ 64 ≤ suc n = ltb-false (suc n) (2 ^ 64) e in sym (simp (le-ltb n (2 ^ 31) (omega arith)))

body_narrow : (c v : ℕ) (zs : List (Option ℤ)) → body c v (map narrow zs) ≡ body c v zs
unfolding body
body_narrow zero zero [] = refl
body_narrow zero zero (z ∷ zs) = refl
body_narrow zero (suc v) [] = refl
body_narrow zero (suc v) (z ∷ zs) = ap₂ with_entry (entry_narrow z) (body_narrow zero v zs)
body_narrow (suc c) v [] = refl
body_narrow (suc c) v (z ∷ zs) = ap₂ with_count (below_narrow 256 (omega arith) z) (body_narrow c v zs)

sized_narrow : (a b : Option ℕ) (rest : List (Option ℤ)) → sized a b (map narrow rest) ≡ sized a b rest
sized_narrow none b rest = refl
sized_narrow (some n) none rest = refl
sized_narrow (some n) (some r) rest = go (cells_of n r)
  where
    go : (k : ℕ) → judge n r k (map narrow rest) ≡ judge n r k rest
    go zero = refl
    go (suc k) = ap (accepted n r) (body_narrow n (suc k * 2) rest)

reading_narrow : (zs : List (Option ℤ)) → reading_of (map narrow zs) ≡ reading_of zs
unfolding reading_of
reading_narrow [] = refl
reading_narrow (a ∷ []) = refl
reading_narrow (a ∷ b ∷ rest) =
    ap₂ (λ (x y : Option ℕ). sized x y (map narrow rest)) (below_narrow (2 ^ 64) (omega arith) a) (below_narrow (2 ^ 64) (omega arith) b)
    ∙ sized_narrow (below (2 ^ 64) a) (below (2 ^ 64) b) rest

-- ---- what a text says, by what its reader hands out

by_words : (text : List ℕ) → reading text ≡ reading_of (map number_in (handed Between text))
unfolding reading narrow
by_words text =
    sym (reading_narrow (map read_integer (tokens text)))
    ∙ ap reading_of (fuse (tokens text) ∙ ap (map number_in) (sym (handed_words text)))
  where
    fuse : (ts : List (List ℕ)) → map narrow (map read_integer ts) ≡ map number_in (map (λ (t : List ℕ). word_of (read_integer t)) ts)
    fuse [] = refl
    fuse (t ∷ ts) = ap (λ (zs : List (Option ℤ)). narrow (read_integer t) ∷ zs) (fuse ts)

numbers_in : (zs : List ℤ) → map number_in (map Ok zs) ≡ whole zs
numbers_in [] = refl
numbers_in (z ∷ zs) = ap (λ (rest : List (Option ℤ)). some z ∷ rest) (numbers_in zs)

words_after : (zs : List ℤ) (w : Result ℤ Malformed) (ws : List (Result ℤ Malformed)) → map number_in (map Ok zs ++ (w ∷ ws)) ≡ whole zs ++ (number_in w ∷ map number_in ws)
words_after zs w ws = map-append number_in (map Ok zs) (w ∷ ws) ∙ ap (λ (rest : List (Option ℤ)). rest ++ (number_in w ∷ map number_in ws)) (numbers_in zs)

-- what the reader gives at a byte
abbrev at_byte : Reader → ℕ → Result (Maybe ℤ) Malformed
at_byte r b = cond (is_blank b) (ended_of r) (Ok None)

said_at : (r : Reader) (b : ℕ) → handed_by r (b ∷ []) ≡ said (at_byte r b)
unfolding handed_by
said_at r b = go (is_blank b)
  where
    go : (t : Bool) → cond t (said (ended_of r)) [] ++ [] ≡ said (cond t (ended_of r) (Ok None))
    go true = append-nil (said (ended_of r))
    go false = refl

pub so_far_none : {s : Session} → s.reader ≡ Between → numbers_of s.taken ≡ [] → Accepting [] s
unfolding handed_by
so_far_none {s} e f = record { state = e; numbers = sym (ap (map Ok) f) }

module _ {text : List ℕ} {s : Session} (so_far : Accepting text s) where
  -- what the reader gave up to a byte more
  given_next : (b : ℕ) → handed_by Between (text ++ (b ∷ [])) ≡ map Ok (numbers_of s.taken) ++ said (at_byte s.reader b)
  given_next b =
      given-append Between text (b ∷ [])
      ∙ ap₂ ◌++◌ so_far.numbers (said_at (scan Between text) b ∙ ap (λ (r : Reader). said (at_byte r b)) (sym so_far.state))

  -- a byte more, after which these numbers more were taken
  so_far_next : {s' : Session} (b : ℕ) (zs : List ℤ) → s'.reader ≡ step_of s.reader b → said (at_byte s.reader b) ≡ map Ok zs
      → numbers_of s'.taken ≡ numbers_of s.taken ++ zs → Accepting (text ++ (b ∷ [])) s'
  so_far_next b zs e f g =
      record {
        state = e ∙ ap (λ (r : Reader). step_of r b) so_far.state ∙ sym (foldl-append step_of Between text (b ∷ []));
        numbers = given_next b ∙ ap (map Ok (numbers_of s.taken) ++◌) f ∙ sym (ap (map Ok) g ∙ map-append Ok (numbers_of s.taken) zs);
      }

  -- what the reader gives at a byte is refused
  refused_next : (b : ℕ) (w : Result ℤ Malformed) {e : Refusal} → said (at_byte s.reader b) ≡ w ∷ []
      → IsRefusedAfter (numbers_of s.taken) (number_in w) e → IsRefused (text ++ (b ∷ [])) e
  refused_next b w {e} f not more =
      by_words ((text ++ (b ∷ [])) ++ more)
      ∙ ap reading_of (ap (map number_in) split ∙ words_after (numbers_of s.taken) w (later ++ last))
      ∙ not (map number_in (later ++ last))
    where
      later : List (Result ℤ Malformed)
      later = handed_by (scan Between (text ++ (b ∷ []))) more

      last : List (Result ℤ Malformed)
      last = said (ended_of (scan Between ((text ++ (b ∷ [])) ++ more)))

      split : handed Between ((text ++ (b ∷ [])) ++ more) ≡ map Ok (numbers_of s.taken) ++ (w ∷ (later ++ last))
      split =
          ap (◌++ last) (
          given-append Between (text ++ (b ∷ [])) more
          ∙ ap (◌++ later) (given_next b ∙ ap (map Ok (numbers_of s.taken) ++◌) f)
          )
          ∙ simp append_assoc

  -- the text ends
  read_so_far : (ws : List (Result ℤ Malformed)) → said (ended_of s.reader) ≡ ws → reading text ≡ reading_of (whole (numbers_of s.taken) ++ map number_in ws)
  read_so_far ws e =
      by_words text
      ∙ ap reading_of (
      ap (map number_in) (ap₂ ◌++◌ so_far.numbers (ap (λ (r : Reader). said (ended_of r)) (sym so_far.state) ∙ e))
      ∙ map-append number_in (map Ok (numbers_of s.taken)) ws
      ∙ ap (◌++ map number_in ws) (numbers_in (numbers_of s.taken))
      )

  -- ---- a byte more: no token ends, or one does that is a number, or none
  module _ (b : ℕ) {w : Result (Maybe ℤ) Malformed} (gives : w ≡ at_byte s.reader b) where
    pub next_none : {s' : Session} → w ≡ Ok None → s'.reader ≡ step_of s.reader b → s'.taken ≡ s.taken → Accepting (text ++ (b ∷ [])) s'
    next_none is e f = so_far_next b [] e (ap said (sym gives ∙ is)) (ap numbers_of f ∙ sym (append-nil (numbers_of s.taken)))

    pub next_number : {A : Type 0} (s' : Session) {z : ℤ} (r : Result A Refusal) → w ≡ Ok (Some z) → s'.reader ≡ step_of s.reader b
        → OnOk r (numbers_of s'.taken ≡ numbers_of s.taken ++ (z ∷ [])) → OnOk r (Accepting (text ++ (b ∷ [])) s')
    next_number s' {z = z} (Ok x) is e f = so_far_next b (z ∷ []) e (ap said (sym gives ∙ is)) f
    next_number s' (Err e) is _ _ = tt

    pub next_refused : {A : Type 0} {z : ℤ} (r : Result A Refusal) → w ≡ Ok (Some z) → IfErr r (IsRefusedAfter (numbers_of s.taken) (some z)) → IfErr r (IsRefused (text ++ (b ∷ [])))
    next_refused (Ok x) is not = tt
    next_refused {z = z} (Err e) is not = refused_next b (Ok z) (ap said (sym gives ∙ is)) not

    pub next_malformed : {m : Malformed} → w ≡ Err m → IsRefused (text ++ (b ∷ [])) Length
    next_malformed {m} is = refused_next b (Err m) (ap said (sym gives ∙ is)) (malformed_refused s.taken)

  -- ---- the end: the same of the last token
  module _ {w : Result (Maybe ℤ) Malformed} (gives : w ≡ ended_of s.reader) where
    pub ends_none : w ≡ Ok None → reading text ≡ reading_of (whole (numbers_of s.taken))
    ends_none is = read_so_far [] (ap said (sym gives ∙ is)) ∙ ap reading_of (append-nil (whole (numbers_of s.taken)))

    pub ends_number : {z : ℤ} {zs : List ℤ} → w ≡ Ok (Some z) → zs ≡ numbers_of s.taken ++ (z ∷ []) → reading text ≡ reading_of (whole zs)
    ends_number {z} is e = read_so_far (Ok z ∷ []) (ap said (sym gives ∙ is)) ∙ ap reading_of (sym (ap whole e ∙ map-append some (numbers_of s.taken) (z ∷ [])))

    pub ends_refused : {z : ℤ} {e : Refusal} → w ≡ Ok (Some z) → IsRefusedAfter (numbers_of s.taken) (some z) e → reading text ≡ refusal e
    ends_refused {z} is not = read_so_far (Ok z ∷ []) (ap said (sym gives ∙ is)) ∙ not []

    pub ends_malformed : {m : Malformed} → w ≡ Err m → reading text ≡ refusal Length
    ends_malformed {m} is = read_so_far (Err m ∷ []) (ap said (sym gives ∙ is)) ∙ malformed_refused s.taken []

-- a text that goes on from one that is refused is refused
pub refused_on : (text : List ℕ) {e : Refusal} (rest : List ℕ) → IsRefused text e → IsRefused (text ++ rest) e
refused_on text {e} rest not more = ap reading (append_assoc text rest more) ∙ not (rest ++ more)

-- the same of a text in which bytes are taken one by one
pub refused_in : (text bytes : List ℕ) (i : ℕ) {e : Refusal} → i < length bytes → IsRefused ((text ++ take i bytes) ++ (get_or bytes i 0 ∷ [])) e → IsRefused (text ++ bytes) e
refused_in text bytes i {e} h not =
    subst (λ (t : List ℕ). IsRefused t e) split (refused_on ((text ++ take i bytes) ++ (get_or bytes i 0 ∷ [])) (drop (suc i) bytes) not)
  where
    split : ((text ++ take i bytes) ++ (get_or bytes i 0 ∷ [])) ++ drop (suc i) bytes ≡ text ++ bytes
    split = simp append_assoc (ap (text ++◌) (ap (take i bytes ++◌) (sym (drop-cons bytes i 0 h)) ∙ take-append-drop i bytes))

-- ---- a session, and the refusal that it keeps

pub accepting : {text : List ℕ} {s : Session} → s.standing ≡ Ok tt → SoFar text s → Accepting text s
accepting {text} {s} is so_far = go s.standing is so_far.accepting
  where
    go : (r : Result (Unit {0}) Refusal) → r ≡ Ok tt → OnOk r (Accepting text s) → Accepting text s
    go (Ok x) is a = a
    go (Err e) is a = cc

pub refused : {text : List ℕ} {s : Session} {e : Refusal} → s.standing ≡ Err e → SoFar text s → IsRefused text e
refused {text} {s} {e} is so_far = go s.standing is so_far.refused
  where
    go : (r : Result (Unit {0}) Refusal) → r ≡ Err e → IfErr r (IsRefused text) → IsRefused text e
    go (Ok x) is not = cc
    go (Err k) is not = let same : k ≡ e = cc in subst (IsRefused text) same not

pub so_far_refused : {text : List ℕ} {s : Session} {e : Refusal} → s.standing ≡ Err e → IsRefused text e → SoFar text s
so_far_refused is not = record { accepting = rw is tt; refused = rw is not }
