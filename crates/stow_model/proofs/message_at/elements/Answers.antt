use Rattle.std.proofs.Common.{◌≡◌, ◌<◌, ap, sym, ◌∙◌, arith, [], ◌∷◌, ◌++◌, append_assoc, subst, length}
use Rattle.std.proofs.lemmas.Grind.{common_steps}
use Rattle.std.specs.List.{AllByRecursion}
use Rattle.stow_model.specs.Wire.{array_line, bulks, IsBegun, IsFaulty, FitsBulk, Spells}
use Rattle.stow_model.specs.Message as message
use Rattle.stow_model.proofs.Messages.{array_begun, array_faulty, array_whole, one_more_word, one_more_fits}
use Rattle.stow_model.proofs.message_at.elements.Goals as goal

pub loop-index-init : goal.loop-index-init
loop-index-init g c =
    let none = sym c.new-words.ensures in
    record {
      count = ap length (sym none);
      fits = subst (λ t. AllByRecursion FitsBulk t) none tt;
      at = ap (λ t. bulks t ++ c.args.rest.now) none;
    }

pub returns-in-More : goal.returns-in-More
returns-in-More g c =
    let v = c.loop-index.invariant in
    let fewer : length c.loop-index.words < c.args.count = let e = v.count in omega arith in
    subst IsBegun (ap (λ t. array_line c.args.count ++ t) (sym v.at)) (array_begun c.args.count c.loop-index.words c.loop-index.left.now c.requires.few fewer v.fits c.in-More.ensures)

pub returns-in-Stuck : goal.returns-in-Stuck
returns-in-Stuck g c =
    let v = c.loop-index.invariant in
    let fewer : length c.loop-index.words < c.args.count = let e = v.count in omega arith in
    subst (λ t. IsFaulty t c.in-Stuck.fault) (ap (λ t. array_line c.args.count ++ t) (sym v.at)) (array_faulty c.args.count c.loop-index.words c.loop-index.left.now c.in-Stuck.fault c.requires.few fewer v.fits c.in-Stuck.ensures)

pub loop-index-preserved : goal.loop-index-preserved
loop-index-preserved g c =
    let v = c.loop-index.invariant in
    let old = c.loop-index.words in
    let word = c.in-Bulk.word.now in
    let items : old ++ word ∷ [] ≡ c.push.new.self = sym c.in_ok-push-in-Bulk.ensures.ok in
    record {
      count = grind (arith, common_steps);
      fits = subst (λ t. AllByRecursion FitsBulk t) items (one_more_fits old word v.fits c.in-Bulk.ensures.0);
      at = subst (λ t. c.args.rest.now ≡ bulks t ++ c.in-Bulk.after.now) items (one_more_word old word c.args.rest.now c.loop-index.left.now c.in-Bulk.after.now v.at c.in-Bulk.ensures.1);
    }

pub returns : goal.returns
returns g c =
    let v = c.loop-index.invariant in
    let words = c.loop-index.words in
    let all : length words ≡ c.args.count = let e = v.count in omega arith in
    let whole = array_whole c.args.count words c.requires.some c.requires.few all v.fits in (
      array_line c.args.count ++ bulks words,
      whole,
      ap (λ t. array_line c.args.count ++ t) v.at ∙ sym (append_assoc (array_line c.args.count) (bulks words) c.loop-index.left.now),
    )
