use Rattle.std.proofs.Common.{ap, ◌∙◌}
use Rattle.stow_leaves.specs.StowMerge.Pins.{pins_in}
use Rattle.stow_leaves.specs.StowMessage.MessageBuf.{MessageList, messages_in}
use Rattle.stow_leaves.specs.StowMessage.Rising.{in_range}
use Rattle.stow_node.proofs.Mergeable.{mergeable}
use Rattle.stow_node.proofs.planning.job_for.Goals as goal

pub new-requires : goal.new-requires
new-requires g c =
    mergeable c.args.leaf.now.low c.args.high.bytes.now c.args.leaf.now.rows c.in_ok-share.field-0 c.args.buffer.now.messages (messages_in c.batch.inside.raw) (pins_in c.args.pins.now) (pins_in c.in_ok-copied.field-0) c.args.shape.leaf
    c.requires.can c.requires.newer c.in_ok-share.ensures
    (ap (λ (b : MessageList). b.messages) c.batch.view_is ∙ ap (λ (b : MessageList). b.messages) c.in_ok-batch.ensures ∙ ap (λ low. in_range low c.args.high.bytes.now c.args.buffer.now.messages) c.as_key-low.ensures)
    c.in_ok-copied.ensures

pub returns : goal.returns
returns g c = record {
  page = c.new.ensures.page ∙ c.in_ok-share.ensures;
  low = ap (λ target. target.low_fence) c.new.ensures.target ∙ c.in_ok-from_key.ensures ∙ c.as_key-low.ensures;
  target = ap (λ target. target.leaf_target) c.new.ensures.target;
  batch = ap (λ (b : MessageList). b.messages) c.new.ensures.batch ∙ ap (λ (b : MessageList). b.messages) c.batch.view_is ∙ ap (λ (b : MessageList). b.messages) c.in_ok-batch.ensures ∙ ap (λ low. in_range low c.args.high.bytes.now c.args.buffer.now.messages) c.as_key-low.ensures;
  pins = λ t. ap (λ pins. pins_in pins t) c.new.ensures.pins ∙ c.in_ok-copied.ensures t;
}
