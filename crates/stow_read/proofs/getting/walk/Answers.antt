use Rattle.std.proofs.Common.{◌++◌, ap, ◌∙◌, subst}
use Rattle.stow_tree_model.specs.Messages.{ops_in}
use Rattle.stow_tree_model.specs.Operations.{latest}
use Rattle.stow_node.specs.StowLeaf.LeafRows.{row_messages}
use Rattle.stow_node.specs.StowMessage.MessageBuf.{MessageList}
use Rattle.stow_read.specs.Suffixes.{suffixes_of, looked, Carries}
use Rattle.stow_read.proofs.Walked.{walking_first, looked_here, walking_on, walked, leaf_there}
use Rattle.stow_read.proofs.getting.walk.Goals as goal

pub loop-base-init : goal.loop-base-init
loop-base-init g c = walking_first c.args.node.now c.args.key.bytes.now c.args.at (suffixes_of c.args.suffixes.now) c.requires

pub returns-in-Base-clause-value : goal.returns-in-Base-clause-value
returns-in-Base-clause-value g c =
    looked_here c.args.node.now c.loop-base.here.now c.children-known.result.now c.args.key.bytes.now c.args.at (suffixes_of c.args.suffixes.now) (suffixes_of c.loop-base.suffixes) (suffixes_of c.look.new.self) c.in_ok-base.field-0 c.loop-base.invariant c.children-known.ensures
    (subst (λ (b : MessageList). Carries (ops_in b.messages c.args.key.bytes.now) c.args.at (suffixes_of c.loop-base.suffixes) (suffixes_of c.look.new.self) c.in_ok-base.field-0) c.buffer.ensures c.in_ok-base.ensures)
    ∙ ap (λ look. looked look (suffixes_of c.look.new.self) (latest (ops_in (c.loop-base.here.now.deeper ++ row_messages c.loop-base.here.now.leaves) c.args.key.bytes.now) c.args.at)) c.in-Base.is

pub below-requires : goal.below-requires
below-requires g c = c.loop-base.invariant.spanned

pub returns-in-Leaf-clause-value : goal.returns-in-Leaf-clause-value
returns-in-Leaf-clause-value g c =
    walked c.args.node.now c.loop-base.here.now c.in-Leaf.leaf c.children-known.result.now c.below.result.now c.args.key.bytes.now c.args.at (suffixes_of c.args.suffixes.now) (suffixes_of c.loop-base.suffixes) (suffixes_of c.look.new.self) c.in_ok-base.field-0 c.value_in_rows.result c.loop-base.invariant c.children-known.ensures
    (subst (λ (b : MessageList). Carries (ops_in b.messages c.args.key.bytes.now) c.args.at (suffixes_of c.loop-base.suffixes) (suffixes_of c.look.new.self) c.in_ok-base.field-0) c.buffer.ensures c.in_ok-base.ensures)
    c.in_default.is c.below.ensures c.in-Leaf.is c.value_in_rows.ensures

pub returns-in-Leaf-clause-leaf : goal.returns-in-Leaf-clause-leaf
returns-in-Leaf-clause-leaf g c =
    leaf_there c.args.node.now c.loop-base.here.now c.in-Leaf.leaf c.below.result.now c.args.key.bytes.now c.args.at (suffixes_of c.args.suffixes.now) (suffixes_of c.loop-base.suffixes) c.loop-base.invariant c.below.ensures c.in-Leaf.is

pub loop-base-preserved : goal.loop-base-preserved
loop-base-preserved g c =
    walking_on c.args.node.now c.loop-base.here.now c.in-Node.lower c.children-known.result.now c.below.result.now c.args.key.bytes.now c.args.at (suffixes_of c.args.suffixes.now) (suffixes_of c.loop-base.suffixes) (suffixes_of c.look.new.self) c.in_ok-base.field-0 c.loop-base.invariant c.children-known.ensures
    (subst (λ (b : MessageList). Carries (ops_in b.messages c.args.key.bytes.now) c.args.at (suffixes_of c.loop-base.suffixes) (suffixes_of c.look.new.self) c.in_ok-base.field-0) c.buffer.ensures c.in_ok-base.ensures)
    c.in_default.is c.below.ensures c.in-Node.is
