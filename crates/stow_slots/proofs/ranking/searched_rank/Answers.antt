use Rattle.std.proofs.Common.{◌+◌, ◌-◌, ◌/◌, ◌<◌, length, get_or, arith, sym, ◌∙◌}
use mathlib.Core.Bool.{false≢true}
use Rattle.std.proofs.lemmas.Option.{slice_get-get_or}
use Rattle.stow_slots.proofs.Merged.{rank_found, all_before, all_after}
use Rattle.stow_slots.proofs.ranking.searched_rank.Goals as goal

pub returns : goal.returns
returns c = let l = c.loop-low in
    rank_found 0 c.args.index c.args.young.now l.low c.requires (omega (arith, l.invariant.within, c.loop-low-test.false))
    (λ j y lt at. let b = l.invariant.before j y lt at in omega (arith, b))
    (λ j y le at. let a = l.invariant.after j y (omega (arith, le, c.loop-low-test.false, l.invariant.within)) at in omega (arith, a))

pub loop-low-preserved-then-is_before : goal.loop-low-preserved-then-is_before
loop-low-preserved-then-is_before c =
    let l = c.loop-low in let young = c.args.young.now in let middle = l.low + (l.high - l.low) / 2 in
    let lt : middle < length young = omega (arith, c.loop-low-test.true, l.invariant.within) in
    record {
      within = (omega (arith, c.loop-low-test.true, l.invariant.within), l.invariant.within.1);
      before = all_before young c.args.index middle (get_or young middle _) c.requires (slice_get-get_or young middle _ lt) (c.is_before.ensures.0 c.if-is_before.true);
      after = l.invariant.after;
    }

pub loop-low-preserved : goal.loop-low-preserved
loop-low-preserved c =
    let l = c.loop-low in let young = c.args.young.now in let middle = l.low + (l.high - l.low) / 2 in
    let lt : middle < length young = omega (arith, c.loop-low-test.true, l.invariant.within) in
    record {
      within = (omega (arith, c.loop-low-test.true, l.invariant.within), omega (arith, lt));
      before = l.invariant.before;
      after = all_after young c.args.index middle (get_or young middle _) c.requires (slice_get-get_or young middle _ lt) (λ below. false≢true (sym c.if-is_before.false ∙ c.is_before.ensures.1 below));
    }
