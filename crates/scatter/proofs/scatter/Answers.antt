-- the plays so far are done
use Rattle.std.proofs.Common.{◌≡◌, ℕ, ◌+◌, ◌-◌, ◌<◌, true, false, List, length, get_or, ℤ, pos, nat_abs, sym, ap, ◌∙◌, subst, arith, w32, to_z, of_z, length-take-le}
use Rattle.std.specs.Prelude.{int_lt}
use Rattle.laws.specs.Integer.{sfits_nat_abs}
use mir.ValLaws.{to_z-of_z}
use Rattle.lattice.specs.Tally.{lattice, total, start, start_suc}
use Rattle.lattice.specs.Lattice.{length_lattice_start}
use Rattle.lattice.specs.Answers.{TallyAt}
use Rattle.lattice.specs.Served.{facts}
use Rattle.scatter.specs.Kept.{caps}
use Rattle.scatter.specs.Raise.{raise_all, length_raise_all}
use Rattle.scatter.specs.Offsets.{offers_at}
use Rattle.scatter.specs.Play.{play_offers, play_offers_lem}
use Rattle.scatter.specs.Scatter.{length_minus}
use Rattle.scatter.specs.Every.{Scattering, scattered_none, scattered_all, scattered_word, scattered_pass, word_small, is_scatter}
use Rattle.scatter.proofs.scatter.Goals.{In-loop-rank, then-worth-gt0, else-worth-gt0}
use Rattle.scatter.proofs.scatter.Goals as goal

-- what a play offers, with the ranks from its own sizes
play_is : {sheet leave best : List ℤ} {unseen P cs : List ℕ} {r rank keep : ℕ} {worth sp : ℤ} → Scattering sheet leave best unseen r → TallyAt (length unseen) r rank P → cs ≡ caps unseen P → keep ≡ r - total P → worth ≡ sp
    → (from : List ℤ) {to : List ℤ} → to ≡ raise_all from (offers_at worth leave P cs (start (length P) keep) (start (length P) (total P + keep)) 0 keep) → to ≡ raise_all from (play_offers sp leave unseen P (length unseen) r)
play_is {leave = leave} {unseen = unseen} {P = P} {r = r} {sp = sp} s at e k w from g =
    let whole : total P + (r - total P) ≡ r = omega (arith, at.tiles) in
    rw (w, e, k, whole, at.letters) at g
    ∙ ap (raise_all from) (play_offers_lem sp leave unseen P (length unseen) r at.letters (sym at.letters) at.tiles)

-- what is known in a turn
module _ (c : goal.In-loop-rank) where
  best_long : length c.loop-rank.best ≡ length c.args.best.now
  best_long = ap length c.loop-rank.invariant.2.done ∙ length_raise_all _ _

  in_lattice : c.loop-rank.rank < length (lattice (length c.args.unseen.now) c.args.r)
  in_lattice = let l = c.loop-rank-test.true in rw (length_lattice_start, ← c.requires.in_sheet) l

  tally_at : {t : List ℕ} → TallyAt (length c.loop-rank.tally) c.args.r c.loop-rank.rank t → TallyAt (length c.args.unseen.now) c.args.r c.loop-rank.rank t
  tally_at {t} e = subst (λ (n : ℕ). TallyAt n c.args.r c.loop-rank.rank t) c.loop-rank.invariant.0 e

  -- the word's worth as the machine reads it
  worth_is : to_z w32 (of_z w32 (get_or c.args.sheet.now c.loop-rank.rank (pos 0))) ≡ get_or c.args.sheet.now c.loop-rank.rank (pos 0)
  worth_is = to_z-of_z w32 _ (sfits_nat_abs (word_small c.requires c.loop-rank.rank).play (omega arith))

pub slice_bounds-tally-end : goal.slice_bounds-tally-end
slice_bounds-tally-end c = (facts _ _ c.requires.sizes).letters

pub slice_bounds-tally-end-2 : goal.slice_bounds-tally-end-2
slice_bounds-tally-end-2 c = sym (length-take-le _ _ (facts _ _ c.requires.sizes).letters)

pub slice_bounds-caps-end : goal.slice_bounds-caps-end
slice_bounds-caps-end c = (facts _ _ c.requires.sizes).letters

pub slice_bounds-caps-end-2 : goal.slice_bounds-caps-end-2
slice_bounds-caps-end-2 c = sym (length-take-le _ _ (facts _ _ c.requires.sizes).letters)

pub loop-rank-init : goal.loop-rank-init
loop-rank-init c =
    let n = (facts _ _ c.requires.sizes).letters in
    (length-take-le _ _ n, length-take-le _ _ n, scattered_none _ _ _ _ _)

pub unrank_within-requires : goal.unrank_within-requires
unrank_within-requires c =
    let e = c.loop-rank.invariant.0 in
    let p = c.requires in
    record { sizes = rw e p.sizes; inside = rw (e, ← start_suc, ← p.in_sheet) c.loop-rank-test.true }

pub fill-keep-requires-clause-size : goal.fill-keep-requires-clause-size
fill-keep-requires-clause-size c = (facts _ _ c.requires.sizes).tiles

pub invariant_of-play : goal.invariant_of-play
invariant_of-play c =
    let d = (goal.at.invariant_of-play c).In-loop-rank in
    let a = tally_at d c.unrank_within.ensures in
    record {
      small =
          let s = word_small c.requires c.loop-rank.rank in
          record { play = omega (arith, ap nat_abs (worth_is d), s.play); keep = s.keep };
      letters = rw a.letters (facts _ _ c.requires.sizes).letters;
      same = sym (ap length c.fill_caps.ensures ∙ length_minus _ _ (sym a.letters));
      tiles = omega (arith, c.fill-keep.ensures.kept, a.tiles, (facts _ _ c.requires.sizes).tiles);
      planned = c.fill-keep.ensures.planned;
    }

pub loop-rank-preserved : goal.loop-rank-preserved
loop-rank-preserved c =
    let d = (goal.at.loop-rank-preserved c).In-loop-rank in
    let inv = c.loop-rank.invariant in
    elim c.if-worth-gt0.branch [
      | then-worth-gt0 w ↦
          let word : int_lt (pos 0) (to_z w32 (of_z w32 (get_or c.args.sheet.now c.loop-rank.rank (pos 0)))) ≡ true = w.if-worth-gt0.true in
          let t = tally_at d w.unrank_within.ensures in (
            ap length w.tally-is ∙ t.letters,
            ap length (w.caps-is ∙ w.fill_caps.ensures) ∙ length_minus _ _ (sym t.letters) ∙ t.letters,
            scattered_word inv.2 (in_lattice d) t (rw (worth_is d) at word)
                (w.best-is ∙ play_is c.requires t w.fill_caps.ensures w.fill-keep.ensures.kept (worth_is d) c.loop-rank.best w.offer_all.ensures),
          )
      | else-worth-gt0 w ↦
          let word : int_lt (pos 0) (to_z w32 (of_z w32 (get_or c.args.sheet.now c.loop-rank.rank (pos 0)))) ≡ false = w.if-worth-gt0.false in
          (ap length w.tally-is ∙ inv.0, ap length w.caps-is ∙ inv.1, scattered_pass inv.2 (in_lattice d) (rw (worth_is d) at word) w.best-is)
    ]

pub returns : goal.returns
returns c =
    let e : length c.args.sheet.now ≡ c.loop-rank.rank = omega (arith, c.loop-rank-test.false) in
    is_scatter c.requires (scattered_all c.loop-rank.invariant.2 (length_lattice_start _ _ ∙ sym c.requires.in_sheet ∙ e))
