use Rattle.std.proofs.Common.{List, ℕ, slice_index_or, ap, ◌∙◌, ◌≡◌, sym, subst}
use Rattle.stow_leaves.specs.StowMessage.Rising.{in_range, AreNew}
use Rattle.stow_tree_model.specs.TreeMessage.{TreeMessage}
use Rattle.stow_node.specs.Nodes.{parts_of}
use Rattle.stow_node.specs.Parts.{high_of}
use Rattle.stow_node.proofs.Places.{low_at}
use Rattle.stow_node.proofs.moving.is_apart.Goals as goal

pub returns : goal.returns
returns g c d told =
    let run : c.in_range.result ≡ in_range (slice_index_or (parts_of c.args.children.now) c.args.index d).low (high_of (parts_of c.args.children.now) c.args.index) c.args.batch.now.messages =
    c.in_range.ensures.messages
    ∙ ap (λ (low : List ℕ). in_range low c.high_after.result.bytes.now c.args.batch.now.messages)
    (c.low.ensures ∙ sym (low_at c.args.children.now c.args.index c.index-children-index.result c.requires c.index-children-index.is d))
    ∙ ap (λ (high : List ℕ). in_range (slice_index_or (parts_of c.args.children.now) c.args.index d).low high c.args.batch.now.messages) c.high_after.ensures in
    subst (λ (l : List TreeMessage). AreNew l c.args.buffer.now.messages) run (c.are_new.ensures.0 told)
