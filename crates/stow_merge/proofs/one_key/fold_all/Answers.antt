use Rattle.std.proofs.Common.{◌∙◌, map, take, ap, sym}
use Rattle.stow_page.specs.StowTreeModel.Op.{op_of}
use Rattle.stow_page.specs.StowTreeModel.Operations.{bytes_or_none, outcome}
use Rattle.stow_page.specs.StowTreeModel.TreeMessage.{message_of}
use Rattle.stow_page.specs.StowTreeModel.declared.message.Message as messages
use Rattle.stow_merge.specs.OneKey.{folded, left_by, rows_of}
use Rattle.stow_merge.proofs.Folded.{folded_more}
use Rattle.stow_merge.proofs.WritingLemmas.{mapped_more}
use Rattle.stow_merge.proofs.one_key.fold_all.Goals as goal

pub loop-i-preserved : goal.loop-i-preserved
loop-i-preserved g c =
    let value = left_by (rows_of c.args.row) in let ms = c.args.messages.now in let i = c.loop-i.i in let m = c.index-messages-i.result in
    c.in_ok-apply.ensures (folded value (map message_of (take i ms))) c.loop-i.invariant
    ∙ ap (λ (x : messages.Message). bytes_or_none (outcome (op_of x.op) (folded value (map message_of (take i ms))))) (sym c.index-messages-i.is)
    ∙ ap bytes_or_none (sym (ap (folded value) (mapped_more message_of ms i m c.loop-i-test.true c.index-messages-i.is) ∙ folded_more value (map message_of (take i ms)) (message_of m)))
