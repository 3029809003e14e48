use Rattle.std.proofs.Common.{◌≡◌, ◌+◌, List, [], sym, subst, ◌∙◌, arith}
use Rattle.std.proofs.lemmas.List.Elements.{All-filter}
use Rattle.std.specs.List.{All, sum_by}
use Rattle.stow_tree_model.specs.Order.{MessagesRise}
use Rattle.stow_tree_model.specs.TreeMessage.{TreeMessage}
use Rattle.stow_message.specs.MessageBuf.{message_list}
use Rattle.stow_message.specs.Packed.{message_size, IsMessage}
use Rattle.stow_message.specs.Rising.{is_between, in_range, all_placed}
use Rattle.stow_message.proofs.Copied.{all_placed_alone, some_size}
use Rattle.stow_message.proofs.Ranges.{filter_rises}
use Rattle.stow_message.proofs.copying.copied_range.Goals as goal

pub with_capacity-requires : goal.with_capacity-requires
with_capacity-requires g c =
    let few = some_size (is_between c.args.from.bytes.now c.args.to.bytes.now) c.args.buffer.now.messages in
    let live = c.used.ensures.live in let within = c.used.ensures.within in let small = c.requires in let is = c.range_bytes-bytes.ensures in
    omega (arith, few, live, within, small, is)

pub push_all-requires-clause-valid : goal.push_all-requires-clause-valid
push_all-requires-clause-valid g c = subst (All IsMessage) (sym c.in_range.ensures.messages) (All-filter (is_between c.args.from.bytes.now c.args.to.bytes.now) IsMessage c.args.buffer.now.messages c.len.ensures.valid)

pub push_all-requires-clause-rising : goal.push_all-requires-clause-rising
push_all-requires-clause-rising g c = subst MessagesRise (sym c.in_range.ensures.messages) (filter_rises (is_between c.args.from.bytes.now c.args.to.bytes.now) c.args.buffer.now.messages c.len.ensures.rising)

pub returns : goal.returns
returns g c =
    let ms : List TreeMessage = in_range c.args.from.bytes.now c.args.to.bytes.now c.args.buffer.now.messages in
    let alone = all_placed_alone ms (filter_rises (is_between c.args.from.bytes.now c.args.to.bytes.now) c.args.buffer.now.messages c.len.ensures.rising) in
    let plus : 0 + sum_by message_size ms ≡ sum_by message_size ms = omega arith in
    let fresh : c.in_ok-copy.copy ≡ message_list [] 0 c.range_bytes-bytes.result = c.in_ok-copy.ensures in
    c.push_all.ensures
    ∙ (λ j. message_list (all_placed (c.in_range.ensures.messages j) (fresh j).messages) ((fresh j).used + sum_by message_size (c.in_range.ensures.messages j)) (fresh j).capacity)
    ∙ (λ j. message_list (alone j) (plus j) (c.range_bytes-bytes.ensures j))
