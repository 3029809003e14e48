use Rattle.std.proofs.Common.{map, ap}
use Rattle.stow_flush.specs.StowNode.Subtree.{Subtree}
use Rattle.stow_tree_model.specs.TreeMessage.{message_of}
use Rattle.stow_tree.proofs.Putting.{putting_first, can_push, putting_on, putting_last}
use Rattle.stow_tree.proofs.tree.Tree.put_all.Goals as goal

pub loop-i-init : goal.loop-i-init
loop-i-init g c = putting_first (map message_of c.args.messages.now) c.args.self.now c.self.inside c.self.view_is c.self.invariant c.requires

pub invariant_of-self : goal.invariant_of-self
invariant_of-self g c = c.loop-i.invariant.is_tree

pub push-requires : goal.push-requires
push-requires g c = can_push c.args.messages.now c.args.self.now c.loop-i.self-inside c.loop-i.i c.index-messages-i.result c.loop-i-test.true c.index-messages-i.is c.loop-i.invariant

pub loop-i-preserved : goal.loop-i-preserved
loop-i-preserved g c = putting_on c.args.messages.now c.args.self.now c.loop-i.self-inside (record { root = c.push.new.self; spare = c.loop-i.self-inside.spare; cache = c.loop-i.self-inside.cache }) c.loop-i.i c.index-messages-i.result c.loop-i-test.true c.index-messages-i.is c.loop-i.invariant (ap (λ (r : Subtree). record c.loop-i.self-inside { root = r }) c.push.ensures)

pub returns : goal.returns
returns g c = putting_last c.args.messages.now c.args.self.now c.loop-i.self-inside c.loop-i.i c.loop-i-test.false c.loop-i.invariant
