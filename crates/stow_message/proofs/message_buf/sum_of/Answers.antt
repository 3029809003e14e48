use Rattle.std.proofs.Common.{◌≡◌, ◌+◌, ◌-◌, ◌<◌, ◌≤◌, ◌∙◌, [], length, drop, ap, subst, arith}
use Rattle.std.specs.List.{sum_by}
use Rattle.std.specs.Prelude.{slice_index_or}
use Rattle.std.proofs.lemmas.List.Sums.{sum_by_more, sum_by_more_le, sum_by-take-le, sum_by-take-drop}
use Rattle.stow_tree_model.specs.TreeMessage.{TreeMessage}
use Rattle.stow_tree_model.specs.Op.{Gone}
use Rattle.stow_message.specs.Packed.{message_size}
use Rattle.stow_message.proofs.Reading.{length-message_bytes}
use Rattle.stow_message.proofs.message_buf.sum_of.Given as given
use Rattle.stow_message.proofs.message_buf.sum_of.Goals as goal
use Rattle.stow_message.proofs.message_buf.sum_of.Goals.{After-packed}

none : TreeMessage
none = record { key = []; number = 0; op = Gone }

size_is : (g : given.Over) (c : After-packed g) → length c.packed.result.now + 4 ≡ message_size (slice_index_or c.args.run.now c.loop-i.i none)
size_is g c = ap (λ bs. length bs + 4) (c.packed.ensures none) ∙ length-message_bytes (slice_index_or c.args.run.now c.loop-i.i none)

within : (g : given.Over) (c : After-packed g) → c.loop-i.i < length c.args.run.now
within g c = omega (arith, c.len-i-end.ensures, c.loop-i-test.true)

-- all of them take no more than the buffer has in use
in_use : (g : given.Over) (c : After-packed g) → sum_by message_size c.args.run.now ≤ c.used-known.result
in_use g c =
    let r = c.run.inside in
    let rest = drop r.from r.buf.now.messages in
    subst (λ ms. sum_by message_size ms ≤ c.used-known.result) c.run.view_is
    (omega (arith, sum_by-take-le message_size rest (r.to - r.from), sum_by-take-drop message_size r.buf.now.messages r.from, c.used-known.ensures.live))

pub overflow_add-total-in-loop-i : goal.overflow_add-total-in-loop-i
overflow_add-total-in-loop-i g c =
    record { fits = omega (arith, size_is g c, c.loop-i.invariant, sum_by_more_le message_size c.args.run.now c.loop-i.i none (within g c), in_use g c, c.used-known.type_inv) }

pub loop-i-preserved : goal.loop-i-preserved
loop-i-preserved g c = omega (arith, sum_by_more message_size c.args.run.now c.loop-i.i none (within g c), c.loop-i.invariant, size_is g c)
