use Rattle.std.proofs.Common.{rules, ◌≡◌, ℕ, ◌<◌, ◌∙◌, sym, subst}
use Rattle.std.specs.Prelude.{slice_get, Some, IsTrue}
use Rattle.stow_leaves.proofs.StowMessage.RisingLists.{no_path}
use Rattle.stow_leaves.specs.StowLeaf.Intervals.{top_key, spans, NoneOutside}
use Rattle.stow_leaves.specs.StowMerge.Pins.{pins_in}
use Rattle.stow_node.specs.Nodes.{parts_of}
use Rattle.stow_node.specs.Parts.{high_of, IsFor}
use Rattle.stow_node.specs.declared.child.Child.TheVariants as in_child
use Rattle.stow_node.proofs.Installable.{child_is, LowerNode, lower_node, spot_outside, spot_below, spot_here}
use Rattle.stow_node.proofs.installing.+spot.Given as given
use Rattle.stow_node.proofs.installing.+spot.Goals as goal
use Rattle.stow_node.proofs.installing.+spot.Goals.{After-is_within, In-Node}

is_for : (g : given.Over) (t : ℕ) (c : After-is_within g t) → IsFor (parts_of c.children-children.result.now) c.args.job.now.target.low_fence c.child_for-index.result
is_for g t c = subst (λ k. IsFor (parts_of c.children-children.result.now) k c.child_for-index.result) c.as_key-low.ensures c.child_for-index.ensures

are_within : (g : given.Over) (t : ℕ) (c : After-is_within g t) → IsTrue c.is_within.result → NoneOutside c.args.job.now.target.low_fence (high_of (parts_of c.children-children.result.now) c.child_for-index.result) c.args.job.now.batch.messages
are_within g t c e =
    subst (λ f. NoneOutside f (high_of (parts_of c.children-children.result.now) c.child_for-index.result) c.args.job.now.batch.messages) c.as_key-low.ensures
    (subst (λ h. NoneOutside c.as_key-low.result.bytes.now h c.args.job.now.batch.messages) c.high_after.ensures (c.is_within.ensures.0 e))

at_node : (g : given.Over) (t : ℕ) (c : In-Node g t) → IsFor (parts_of c.children-children.result.now) c.args.job.now.target.low_fence c.child_for-index.result → slice_get c.children-children.result.now c.child_for-index.result ≡ Some (in_child.Node c.in-Node.lower)
at_node g t c own = child_is c.children-children.result.now c.child_for-index.result c.index-children-index.result (in_child.Node c.in-Node.lower) c.args.job.now.target.low_fence own c.index-children-index.is c.in-Node.is

pub child_for-index-requires-clause-within : goal.child_for-index-requires-clause-within
child_for-index-requires-clause-within g t c = (λ j. spans (c.children-children.ensures.low j) top_key (c.as_key-low.ensures j)) ∙ c.requires

pub returns-then-not-is_within : goal.returns-then-not-is_within
returns-then-not-is_within g t c = (
  λ e. absurd cc,
  λ can. absurd (no_path (sym c.if-not-is_within.true ∙ c.is_within.ensures.1 (subst (λ f. NoneOutside f c.high_after.result.bytes.now c.args.job.now.batch.messages) (sym c.as_key-low.ensures)
      (subst (λ h. NoneOutside c.args.job.now.target.low_fence h c.args.job.now.batch.messages) (sym c.high_after.ensures)
      (spot_outside c.args.node.now c.children-children.result.now c.child_for-index.result c.args.job.now (pins_in c.args.pins.now) c.children-children.ensures (is_for g t (goal.at.returns-then-not-is_within g t c).After-is_within) can))))),
)

pub has_spot-requires : goal.has_spot-requires
has_spot-requires g t c κs within =
    let own = is_for g t (goal.at.has_spot-requires g t c).After-is_within in
    let lower : LowerNode c.args.node.now c.in-Node.lower c.args.job.now.target.low_fence = lower_node c.args.node.now c.children-children.result.now c.child_for-index.result c.in-Node.lower c.args.job.now.target.low_fence c.children-children.ensures own (at_node g t (goal.at.has_spot-requires g t c).In-Node own) in
    let less : c.in-Node.lower.height < c.args.node.now.height = lower.lower in
    (search (rules, less), (within, lower.spanned))

pub returns-in-Node : goal.returns-in-Node
returns-in-Node g t c =
    let own = is_for g t (goal.at.returns-in-Node g t c).After-is_within in
    spot_below c.args.node.now c.children-children.result.now c.child_for-index.result c.in-Node.lower c.args.job.now (pins_in c.args.pins.now) c.has_spot.result c.children-children.ensures (at_node g t (goal.at.returns-in-Node g t c).In-Node own) own
    (are_within g t (goal.at.returns-in-Node g t c).After-is_within c.if-not-is_within.false) c.has_spot.ensures

pub returns-in-Leaf : goal.returns-in-Leaf
returns-in-Leaf g t c =
    let own = is_for g t (goal.at.returns-in-Leaf g t c).After-is_within in
    spot_here c.args.node.now c.children-children.result.now c.child_for-index.result c.in-Leaf.leaf c.args.job.now (pins_in c.args.pins.now) c.is_as_planned.result c.children-children.ensures
    (child_is c.children-children.result.now c.child_for-index.result c.index-children-index.result (in_child.Leaf c.in-Leaf.leaf) c.args.job.now.target.low_fence own c.index-children-index.is c.in-Leaf.is) own
    (are_within g t (goal.at.returns-in-Leaf g t c).After-is_within c.if-not-is_within.false) c.is_as_planned.ensures
