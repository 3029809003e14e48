use Rattle.std.proofs.lemmas.Grind.{common_steps}
use Rattle.std.proofs.Common.{◌≡◌, ◌∷◌, [], true, false, sym, subst, rules, arith}
use Rattle.std.specs.List.{AllByRecursion}
use Rattle.stow_merge.specs.declared.kept_version.KeptVersion as coded
use Rattle.stow_page.specs.StowTreeModel.Merged.{same_key}
use Rattle.stow_page.proofs.StowTreeModel.Readings.{drop_one_less}
use Rattle.stow_merge.proofs.Lists.{all_join}
use Rattle.stow_merge.proofs.WritingLemmas.{one_more, same_from, other_from}
use Rattle.stow_merge.proofs.writing.run_length.Goals as goal

pub returns-then-not-is_same-clause-run : goal.returns-then-not-is_same-clause-run
returns-then-not-is_same-clause-run c =
    let other : same_key c.args.key.bytes.now c.index-kept-i.result.key.bytes.now ≡ false = search rules in
    record {
      are_of_key = c.loop-i.invariant;
      ends = λ k later e.
          let first : c.index-kept-i.result ≡ k = let d = drop_one_less c.args.kept.now c.loop-i.i c.index-kept-i.result c.loop-i-test.true c.index-kept-i.is in cc in
          subst (λ (x : coded.KeptVersion). c.args.key.bytes.now ≡ x.key.bytes.now → ⊥) first (other_from c.args.key.bytes.now c.index-kept-i.result.key.bytes.now other);
    }

pub loop-i-preserved : goal.loop-i-preserved
loop-i-preserved c =
    let same : same_key c.args.key.bytes.now c.index-kept-i.result.key.bytes.now ≡ true = search rules in
    subst (AllByRecursion (λ (k : coded.KeptVersion). k.key.bytes.now ≡ c.args.key.bytes.now)) (sym (one_more c.args.kept.now c.loop-i.i c.index-kept-i.result c.loop-i-test.true c.index-kept-i.is))
    (all_join _ _ (c.index-kept-i.result ∷ []) c.loop-i.invariant (sym (same_from c.args.key.bytes.now c.index-kept-i.result.key.bytes.now same), tt))

pub returns-clause-run : goal.returns-clause-run
returns-clause-run c = grind (arith, common_steps)
