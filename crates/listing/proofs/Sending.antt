-- A page that is written part by part.
use Rattle.std.proofs.Common.{◌≡◌, ℕ, ◌<◌, ◌^◌, Result, Ok, Err, OnOk, List, [], ◌∷◌, ◌++◌, length, take, drop, ◌+◌, ◌≤◌, sym, refl, ap, ap₂, ◌∙◌, zero-add, append_assoc, append-nil, take-append-drop, take_all, length-drop, ◌-◌, subst, arith}
use Rattle.std.specs.declared.option.Option.{Option}
use Rattle.std.specs.Io.KnownBytes.{Appends, Keeps, Consumes}
use Rattle.std.proofs.KnownBytes.{Appends-nil, Appends-trans}
use Rattle.std.specs.Prelude.{Some, None}
use lib.ListN.{length-append}
use Rattle.std.proofs.lemmas.List.Edits.{sets-eq}
use Rattle.text.specs.Text.{Written}
use Rattle.listing.specs.Reading.{reading}
use Rattle.listing.specs.Stop.{Stop, ended, failed, refused, spent}
use Rattle.listing.specs.Listing.{AppendsPart, Listed, answered, listing_of, OnWhole}

-- a part is written, and the rest is left
pub record Sent (was now : Option (List ℕ)) (page rest : List ℕ) : Type 0 where
  pub part : List ℕ
  pub is : page ≡ part ++ rest
  pub wrote : Appends was now part

pub sent_none : (known : Option (List ℕ)) (page : List ℕ) → Sent known known page page
sent_none known page = record { part = []; is = refl; wrote = Appends-nil known }

module _ {was mid now : Option (List ℕ)} {page rest : List ℕ} (sent : Sent was mid page rest) where
  pub sent_more : (n : ℕ) {left : List ℕ} → Appends mid now (take n rest) → left ≡ take (length rest - n) (drop n rest) → Sent was now page left
  sent_more n {left} wrote is =
      let same : left ≡ drop n rest = is ∙ take_all (length rest - n) (drop n rest) (omega (arith, length-drop n rest)) in
      record {
        part = sent.part ++ take n rest;
        is = sent.is ∙ ap (sent.part ++◌) (sym (take-append-drop n rest)) ∙ sym (append_assoc sent.part (take n rest) (drop n rest)) ∙ ap ((sent.part ++ take n rest) ++◌) (sym same);
        wrote = Appends-trans was mid now sent.part (take n rest) sent.wrote wrote;
      }

  pub sent_same : Keeps mid now → Sent was now page rest
  sent_same kept =
      record {
        part = sent.part;
        is = sent.is;
        wrote = subst (Appends was now) (append-nil sent.part) (Appends-trans was mid now sent.part [] sent.wrote (nothing mid now kept));
      }
    where
      nothing : (a b : Option (List ℕ)) → Keeps a b → Appends a b []
      nothing None b k = tt
      nothing (Some xs) None k = k
      nothing (Some xs) (Some ys) k = k ∙ sym (append-nil xs)

module _ {was mid : Option (List ℕ)} {page rest : List ℕ} (sent : Sent was mid page rest) where
  -- the whole page is written where nothing is left
  pub sent_all : length rest ≡ 0 → Appends was mid page
  sent_all none = go rest none sent.is
    where
      go : (rest : List ℕ) → length rest ≡ 0 → page ≡ sent.part ++ rest → Appends was mid page
      go [] e is = subst (Appends was mid) (sym (is ∙ append-nil sent.part)) sent.wrote
      go (x ∷ xs) e is = absurd (omega arith)

  -- and else a part of it
  pub sent_part : 0 < length rest → AppendsPart was mid page
  sent_part some = record { part = sent.part; rest = rest; lacks = some; is = sent.is; wrote = sent.wrote }

-- ---- a page that is put at the start of a buffer
pub listed_first : {text d copied page : List ℕ} {end : ℕ} → page ≡ listing_of text → copied ≡ page → end ≡ length page → end ≤ length d → Listed text d (copied ++ drop end d) end
listed_first {text} {d} {copied} {page} {end} is same long room =
    record {
      written = record {
        text =
            ap₂ ◌++◌ (same ∙ is) (ap (λ (k : ℕ). drop k d) at)
            ∙ sym (sets-eq (listing_of text) d 0 (omega (arith, at)));
        end = at;
      };
      fits = omega (arith, length-append copied (drop end d), ap length same);
    }
  where
    at : end ≡ 0 + length (listing_of text)
    at = long ∙ ap length is ∙ sym (zero-add (length (listing_of text)))

-- ---- a reader whose bytes are known, and whose reads do not fail, gives its listing
all_read : {A E : Type 0} {text all left : List ℕ} (read : Result A E) {a : A} → read ≡ Ok a → all ≡ text ++ left → Stop text (Some left) read → length all < 2 ^ 64 - 1
    → listing_of text ≡ listing_of all
unfolding listing_of
all_read {text = text} {left = left} read ok is (ended none) few = sym (ap (λ (t : List ℕ). answered (reading t)) (is ∙ ap (text ++◌) none ∙ append-nil text))
all_read (Ok a) ok is (failed e) few = cc
all_read (Err e) ok is (failed _) few = cc
all_read {text = text} {left = left} read ok is (refused e not) few =
    ap answered (ap reading (sym (append-nil text)) ∙ not [] ∙ sym (not left) ∙ sym (ap reading is))
all_read {text = text} {left = left} read ok is (spent long) few = absurd (omega (arith, ap length is, length-append text left))

pub whole_read : {A E : Type 0} (old new : Option (List ℕ)) {text : List ℕ} (read : Result A E) (P : List ℕ → Type 0)
    → Consumes old new text → Stop text new read → ((all : List ℕ) → listing_of text ≡ listing_of all → P all) → OnOk read (OnWhole old P)
whole_read None new (Ok a) P took stop p = tt
whole_read (Some all) None (Ok a) P took stop p = absurd took
whole_read (Some all) (Some left) (Ok a) P took stop p = λ few. p all (all_read (Ok a) refl took stop few)
whole_read old new (Err e) P took stop p = tt

pub listed_as : {text all d e : List ℕ} {end : ℕ} → Listed text d e end → listing_of text ≡ listing_of all → Listed all d e end
listed_as {d = d} {e = e} {end = end} l q = record { written = subst (λ (bs : List ℕ). Written d 0 bs e end) q l.written; fits = l.fits }
