use Rattle.std.proofs.Common.{◌∙◌, ◌<◌, ◌∷◌, [], ◌++◌, length, take, map, sym, ap, arith}
use Rattle.std.proofs.lemmas.List.{map-append, take_more}
use Rattle.stow_merge.specs.StowTreeModel.TreeMessage.{message_of}
use Rattle.stow_leaf.proofs.making.lent_run.Goals as goal

pub loop-i-preserved : goal.loop-i-preserved
loop-i-preserved g c =
    let messages = c.args.run.now in
    let i = c.loop-i.i in
    let m = message_of c.get.result in
    let in_range : i < length messages = (let l = c.loop-i-test.true in let e = c.len-len.ensures in omega arith) in
    ap (map message_of) c.in_ok-push.ensures.items
    ∙ map-append message_of c.loop-i.lent.items _
    ∙ ap (λ ms. ms ++ m ∷ []) c.loop-i.invariant
    ∙ sym (take_more messages i m in_range ∙ ap (λ w. take i messages ++ w ∷ []) (sym c.get.ensures))
