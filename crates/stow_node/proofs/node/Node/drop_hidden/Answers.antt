use Rattle.std.proofs.Common.{◌≡◌, Bool, true, false, refl, sym, ap, subst, ◌∙◌}
use Rattle.std.specs.Prelude.{IsTrue}
use Rattle.stow_leaves.specs.StowMerge.Pins.{pins_in}
use Rattle.stow_leaves.specs.StowMessage.MessageBuf.{MessageList}
use Rattle.stow_superseded.specs.Hidden.{DropsHidden}
use Rattle.stow_tree_model.specs.Agreement.{TenantPins}
use Rattle.stow_tree_model.specs.Order.{MessagesRise}
use Rattle.stow_node.specs.declared.node.Node.TheInside.{Inside}
use Rattle.stow_node.specs.Nodes.{IsNode, subtree_of}
use Rattle.stow_node.specs.Superseded.{EachMeansTheSame}
use Rattle.stow_node.proofs.Superseded.{lost, means_itself}
use Rattle.stow_node.proofs.node.Node.drop_hidden.Goals as goal

module _ {A : Type 0} (a : Inside A) (pins : TenantPins) (b : MessageList) (node : IsNode a) (rise : MessagesRise a.buffer.messages) where
  still_node : (did : Bool) → (IsTrue did → DropsHidden pins a.buffer b) → (did ≡ false → b ≡ a.buffer) → IsNode (record a { buffer = b })
  still_node true drops none = (lost a pins b node rise (drops refl)).is_node
  still_node false drops none = subst (λ c. IsNode (record a { buffer = c })) (sym (none refl)) node

  still_means : (did : Bool) → (IsTrue did → DropsHidden pins a.buffer b) → (did ≡ false → b ≡ a.buffer) → EachMeansTheSame pins (subtree_of a) (subtree_of (record a { buffer = b }))
  still_means true drops none = (lost a pins b node rise (drops refl)).means
  still_means false drops none = subst (λ c. EachMeansTheSame pins (subtree_of a) (subtree_of (record a { buffer = c }))) (sym (none refl)) (means_itself pins (subtree_of a))

pub invariant_of-self : goal.invariant_of-self
invariant_of-self g c = still_node c.self.inside (pins_in c.args.pins.now) c.drop_hidden.new.buffer c.self.invariant c.len-known.ensures.rising c.drop_hidden.result c.drop_hidden.ensures.dropped c.drop_hidden.ensures.none

pub returns-clause-dropped : goal.returns-clause-dropped
returns-clause-dropped g c = λ did. rw (← c.self.view_is) (lost c.self.inside (pins_in c.args.pins.now) c.drop_hidden.new.buffer c.self.invariant c.len-known.ensures.rising (c.drop_hidden.ensures.dropped did)).loses

pub returns-clause-none : goal.returns-clause-none
returns-clause-none g c = λ not_done. ap (λ b. subtree_of (record c.self.inside { buffer = b })) (c.drop_hidden.ensures.none not_done) ∙ c.self.view_is

pub returns-clause-means : goal.returns-clause-means
returns-clause-means g c = rw (← c.self.view_is) (still_means c.self.inside (pins_in c.args.pins.now) c.drop_hidden.new.buffer c.self.invariant c.len-known.ensures.rising c.drop_hidden.result c.drop_hidden.ensures.dropped c.drop_hidden.ensures.none)
