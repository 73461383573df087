-- What was read, and how much of its listing was written.
use Rattle.std.proofs.Common.{◌≡◌, List, Result, Ok, Err, OnOk, OnErr, sym, refl, ap, ◌∙◌, subst}
use Rattle.std.specs.declared.option.Option.{Option}
use Prim.Native.Nat.{ℕ}
use Rattle.std.specs.Io.KnownBytes.{Appends}
use Rattle.refusal.specs.declared.Refusal.{Refusal}
use Rattle.listing.specs.declared.form.Given.{Given}
use Rattle.listing.specs.Taken.{reading_as}
use Rattle.listing.specs.Stop.{AllRead}
use Rattle.listing.specs.Listing.{answered, listing_of, AppendsPart, OnWhole, Printed, PrintedPart, unread, unwritten}
use Rattle.listing.proofs.Sending.{whole_read}

module _ {A E : Type 0} {old new : Option (List ℕ)} {read : Result A E} {given : Result Given Refusal} (all : AllRead old new read given)
    {page : List ℕ} (is : page ≡ answered (reading_as given)) where
  listing : page ≡ listing_of all.text
  unfolding listing_of
  listing = is ∙ ap answered (sym all.holds)

  module _ (was now : Option (List ℕ)) (wrote : Appends was now page) where
    pub printed_ok : OnOk read (Printed old new read was now)
    printed_ok = go read (record { text = all.text; took = all.took; stop = all.stop; wrote = subst (Appends was now) listing wrote })
      where
        go : {P : Type 0} (r : Result A E) → P → OnOk r P
        go (Ok a) p = p
        go (Err e) p = tt

    pub printed_whole : OnOk read (OnWhole old (λ bytes. Appends was now (listing_of bytes)))
    printed_whole = whole_read old new read (λ bytes. Appends was now (listing_of bytes)) all.took all.stop (λ bytes q. subst (Appends was now) (listing ∙ q) wrote)

    pub printed_err : OnErr read (PrintedPart old new read was now)
    printed_err = go read (record { text = all.text; read = read; took = all.took; stop = all.stop; wrote = unread refl (subst (Appends was now) listing wrote) })
      where
        go : {P : Type 0} (r : Result A E) → P → OnErr r P
        go (Ok a) p = tt
        go (Err e) p = p

  pub printed_part : {was now : Option (List ℕ)} (run : Result A E) → AppendsPart was now page → OnErr run (PrintedPart old new run was now)
  printed_part (Ok a) part = tt
  printed_part (Err e) part = record { text = all.text; read = read; took = all.took; stop = all.stop; wrote = unwritten (subst (AppendsPart _ _) listing part) }
