use Rattle.std.proofs.Common.{◌≡◌, ◌∙◌, length, map, ap, sym, true, false, arith}
use Rattle.std.proofs.lemmas.List.{length-map}
use Rattle.std.proofs.lemmas.Option.{slice_get_within}
use Rattle.stow_page.specs.StowTreeModel.Merged.{same_key}
use Rattle.stow_page.specs.StowTreeModel.TreeMessage.{message_of}
use Rattle.stow_page.specs.StowTreeModel.declared.message.Message as messages
use Rattle.stow_merge.proofs.OneKeyLemmas.{more_messages, other_message}
use Rattle.stow_merge.proofs.by_keys.count_of_key.Goals as goal

pub returns-then-not-is_same : goal.returns-then-not-is_same
returns-then-not-is_same c =
    let batch = c.args.batch.now in let i = c.loop-i.i in
    let other : same_key c.args.key.bytes.now c.index-batch-i.result.key.bytes.now ≡ false = ap (λ (m : messages.Message). same_key c.args.key.bytes.now m.key.bytes.now) c.index-batch-i.is ∙ sym c.is_same.ensures ∙ c.if-not-is_same.true in
    record {
      within = (let l = c.loop-i-test.true in let m = length-map batch message_of in omega (arith, l, m));
      are = c.loop-i.invariant;
      ends = other_message batch i c.index-batch-i.result c.args.key.bytes.now c.loop-i-test.true c.index-batch-i.is other;
    }

pub loop-i-preserved : goal.loop-i-preserved
loop-i-preserved c =
    let same : same_key c.args.key.bytes.now c.index-batch-i.result.key.bytes.now ≡ true = ap (λ (m : messages.Message). same_key c.args.key.bytes.now m.key.bytes.now) c.index-batch-i.is ∙ sym c.is_same.ensures ∙ c.if-not-is_same.false in
    more_messages c.args.batch.now c.loop-i.i c.index-batch-i.result c.args.key.bytes.now c.loop-i-test.true c.index-batch-i.is same c.loop-i.invariant

pub returns : goal.returns
returns c =
    let batch = c.args.batch.now in let m = length-map batch message_of in
    record {
      within = omega (arith, m);
      are = λ i x low e. c.loop-i.invariant i x (let end = c.loop-i-test.false in omega (arith, low, end)) e;
      ends = λ x e. absurd (let w = slice_get_within (map message_of batch) (length batch) x e in omega (arith, w, m));
    }
