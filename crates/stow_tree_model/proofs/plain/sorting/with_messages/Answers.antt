use Rattle.std.proofs.Common.{◌≡◌, ◌∙◌, ◌-◌, ◌≤◌, suc, [], ◌∷◌, length, drop, sym, ap, arith, map}
use Rattle.stow_tree_model.specs.Messages.{with_all, set_of, in_order}
use Rattle.stow_tree_model.specs.TreeMessage.{message_of}
use Rattle.stow_tree_model.specs.Zipped.{zipped}
use Rattle.stow_tree_model.proofs.Readings.{drop_all, drop_one_less}
use Rattle.stow_tree_model.proofs.Zipped.{in_order-one_more, in_order-set_of}
use Rattle.stow_tree_model.proofs.plain.sorting.with_messages.Goals as goal

pub loop-left-init : goal.loop-left-init
loop-left-init g c = (omega arith, sym (ap (λ xs. in_order (with_all (set_of (map message_of c.args.first.items)) (map message_of xs))) (drop_all c.args.more.now) ∙ in_order-set_of (map message_of c.args.first.items) c.requires))

pub loop-left-preserved : goal.loop-left-preserved
loop-left-preserved g c =
    let more = c.args.more.now in
    let left = c.loop-left.left in
    let m = c.index-more-left.result in
    let base = set_of (map message_of c.args.first.items) in
    let positive = c.loop-left-test.true in
    let in_range : left ≤ length more = c.loop-left.invariant.0 in
    let next : suc (left - 1) ≡ left = omega arith in
    let dropped : drop (left - 1) more ≡ m ∷ drop left more = drop_one_less more (left - 1) m (omega arith) c.index-more-left.is ∙ ap (λ n. m ∷ drop n more) next in (
      omega arith,
      c.in_ok-sorted.ensures
          ∙ ap (λ ms. zipped ms (message_of m ∷ [])) (ap (map message_of) c.as_slice.ensures.value ∙ c.loop-left.invariant.1)
          ∙ in_order-one_more (with_all base (map message_of (drop left more))) (message_of m)
          ∙ sym (ap (λ xs. in_order (with_all base (map message_of xs))) dropped),
    )
