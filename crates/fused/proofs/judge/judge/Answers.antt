-- The judges in the order of the numbers. Assumes nothing.
use mathlib.Core.Bool.{false≢true}
use Rattle.std.proofs.Common.{refl, sym, ◌∙◌, arith}
use Rattle.std.proofs.lemmas.Result.{err_from_is_err_and}
use Rattle.lattice.specs.Served.{facts}
use Rattle.fused.specs.Answer.{Input, Lent, lent, ReadLengths, Lengths, Entries, FusedNumber}
use Rattle.fused.specs.Judged.{input_of}
use Rattle.fused.proofs.Judges.{whole, sheet_beyond, leave_beyond, entries_of, limit_of, limit_over, ranks_refused, ranks_taken}
use Rattle.fused.proofs.judge.judge.Goals.{Start, Else-not-read_fit, Else-not-written_fit, Else-most_leave-gt-LARGEST, then-most_sheet-gt-LARGEST-via-then-most_sheet-gt-LARGEST, then-most_sheet-gt-LARGEST-via-else-most_sheet-gt-LARGEST+then-most_leave-gt-LARGEST}
use Rattle.fused.proofs.judge.judge.Goals as goal

-- what the call reads, and what it would write
abbrev given : goal.Start → Input
given c = let a = c.args in input_of a.sizes a.add.now a.by_letter.now a.board.now

abbrev slices : goal.Start → Lent
slices c = let a = c.args in lent a.written.now.num.now a.written.now.den.now a.written.now.ways.now a.written.now.maxsheet.now

-- what is known where the judges so far refuse nothing
reads : (c : goal.Else-not-read_fit) → ReadLengths (given (goal.at.Else-not-read_fit c).Start)
reads c = c.if-not-read_fit.ensures.0 refl

lens : (c : goal.Else-not-written_fit) → Lengths (given (goal.at.Else-not-written_fit c).Start) (slices (goal.at.Else-not-written_fit c).Start)
lens c = record { read = reads (goal.at.Else-not-written_fit c).Else-not-read_fit; written = c.if-not-written_fit.ensures.0 refl }

entries : (c : goal.Else-most_leave-gt-LARGEST) → Entries (given (goal.at.Else-most_leave-gt-LARGEST c).Start)
entries c = entries_of (given (goal.at.Else-most_leave-gt-LARGEST c).Start) c.largest-most_sheet.ensures c.largest-most_leave.ensures c.if-most_sheet-gt-LARGEST.false c.if-most_leave-gt-LARGEST.false

pub returns-then-not-read_fit-clause-number : goal.returns-then-not-read_fit-clause-number
returns-then-not-read_fit-clause-number c = FusedNumber.lengths c.args.sizes.is_served (λ h. false≢true (c.if-not-read_fit.ensures.1 h.read))

pub returns-then-not-written_fit-clause-number : goal.returns-then-not-written_fit-clause-number
returns-then-not-written_fit-clause-number c = FusedNumber.lengths c.args.sizes.is_served (λ h. false≢true (c.if-not-written_fit.ensures.1 h.written))

pub returns-then-most_sheet-gt-LARGEST-clause-number : goal.returns-then-most_sheet-gt-LARGEST-clause-number
returns-then-most_sheet-gt-LARGEST-clause-number c =
    let at = goal.at.returns-then-most_sheet-gt-LARGEST-clause-number c in
    FusedNumber.entries c.args.sizes.is_served (lens at.Else-not-written_fit)
    (elim c.then-most_sheet-gt-LARGEST.branch [
      | then-most_sheet-gt-LARGEST-via-then-most_sheet-gt-LARGEST w ↦ sheet_beyond (given at.Start) c.largest-most_sheet.ensures w.if-most_sheet-gt-LARGEST.true
      | then-most_sheet-gt-LARGEST-via-else-most_sheet-gt-LARGEST+then-most_leave-gt-LARGEST w ↦ leave_beyond (given at.Start) c.largest-most_sheet.ensures c.largest-most_leave.ensures w.if-most_leave-gt-LARGEST.true
    ])

pub returns-in_err-ranks-clause-number : goal.returns-in_err-ranks-clause-number
returns-in_err-ranks-clause-number c =
    let at = goal.at.returns-in_err-ranks-clause-number c in
    let p = err_from_is_err_and c.from_residual.result c.from_residual.ensures.1 in
    rw (p.1, p.2)
    (ranks_refused c.args.sizes.is_served (lens at.Else-not-written_fit) (entries at.Else-most_leave-gt-LARGEST) c.in_err-ranks.field-0.0 c.in_err-ranks.ensures.number)

pub scatters-requires : goal.scatters-requires
scatters-requires c =
    let r = reads (goal.at.scatters-requires c).Else-not-read_fit in
    let e = sym (whole c.args.sizes) in
    record { in_sheet = r.in_sheet ∙ e; in_leave = r.in_leave ∙ e; in_leave_max = λ f. r.in_leave_max f ∙ e }

pub returns-then-not-scatters-clause-number : goal.returns-then-not-scatters-clause-number
returns-then-not-scatters-clause-number c =
    let at = goal.at.returns-then-not-scatters-clause-number c in
    FusedNumber.words c.args.sizes.is_served (lens at.Else-not-written_fit) (entries at.Else-most_leave-gt-LARGEST) (ranks_taken c.in_ok-ranks.ensures.number refl) (λ h. false≢true (c.if-not-scatters.ensures.1 h))

pub returns-then-not-cleared-clause-number : goal.returns-then-not-cleared-clause-number
returns-then-not-cleared-clause-number c =
    let at = goal.at.returns-then-not-cleared-clause-number c in
    FusedNumber.cleared c.args.sizes.is_served (lens at.Else-not-written_fit) (entries at.Else-most_leave-gt-LARGEST) (ranks_taken c.in_ok-ranks.ensures.number refl) (c.if-not-scatters.ensures.0 refl) (λ h. false≢true (c.if-not-cleared.ensures.1 h))

pub within_weight-requires : goal.within_weight-requires
within_weight-requires c =
    let s = c.args.sizes in
    let f = facts s.n s.r s.is_served in
    record { letters = omega (arith, (reads (goal.at.within_weight-requires c).Else-not-read_fit).in_pool, f.letters); tiles = f.tiles; sheet = c.if-most_sheet-gt-LARGEST.false; leave = c.if-most_leave-gt-LARGEST.false }

pub returns-then-not-within_weight-clause-number : goal.returns-then-not-within_weight-clause-number
returns-then-not-within_weight-clause-number c =
    let at = goal.at.returns-then-not-within_weight-clause-number c in
    FusedNumber.limit c.args.sizes.is_served (lens at.Else-not-written_fit) (entries at.Else-most_leave-gt-LARGEST) (ranks_taken c.in_ok-ranks.ensures.number refl) (c.if-not-scatters.ensures.0 refl) (c.if-not-cleared.ensures.0 refl)
    (limit_over (given at.Start) c.largest-most_sheet.ensures c.largest-most_leave.ensures (c.within_weight.ensures.no c.if-not-within_weight.true))

pub returns-clause-number : goal.returns-clause-number
returns-clause-number c =
    let at = goal.at.returns-clause-number c in
    let l = lens at.Else-not-written_fit in
    FusedNumber.accepted
    (record {
      sound = record {
        sizes = c.args.sizes.is_served;
        lengths = l.read;
        entries = entries at.Else-most_leave-gt-LARGEST;
        ranks = ranks_taken c.in_ok-ranks.ensures.number refl;
        words = c.if-not-scatters.ensures.0 refl;
        limit = limit_of (given at.Start) c.largest-most_sheet.ensures c.largest-most_leave.ensures (c.within_weight.ensures.yes c.if-not-within_weight.false);
      };
      lengths = l.written;
      cleared = c.if-not-cleared.ensures.0 refl;
    })
