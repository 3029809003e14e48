use Rattle.std.proofs.Common.{[], sym, subst}
use Rattle.stow_leaves.proofs.StowMessage.RisingLaws.{rests_rise}
use Rattle.stow_leaves.specs.StowMessage.Rising.{in_range}
use Rattle.stow_node.specs.Subtree.{Subtree}
use Rattle.stow_node.specs.Moves.{CanAccept}
use Rattle.stow_node.proofs.Accepted.{Took, took, others}
use Rattle.stow_node.proofs.Newer.{are_new}
use Rattle.stow_node.proofs.node.Node.accept.Goals as goal
use Rattle.stow_node.proofs.node.Node.accept.Given as given

pub move_range-requires-clause-new : goal.move_range-requires-clause-new
move_range-requires-clause-new g c =
    let can = subst (λ (t : Subtree). CanAccept (in_range t.low c.args.to.bytes.now c.args.from.now.messages) t) (sym c.self.view_is) c.requires in
    let ms = in_range c.self.inside.low c.args.to.bytes.now c.args.from.now.messages in
    rw c.as_key.ensures (are_new ms c.self.inside.buffer.messages (others c.self.inside ms can))

done : (g : given.Over) (c : goal.After-move_range g) → Took c.self.inside (in_range c.self.inside.low c.args.to.bytes.now c.args.from.now.messages) c.move_range.new.into
done g c =
    let can = subst (λ (t : Subtree). CanAccept (in_range t.low c.args.to.bytes.now c.args.from.now.messages) t) (sym c.self.view_is) c.requires in
    let ms = in_range c.self.inside.low c.args.to.bytes.now c.args.from.now.messages in
    let rise = rests_rise c.self.inside.low c.args.to.bytes.now [] c.args.from.now.messages c.len-known.ensures.rising in
    rw (c.move_range.ensures.moved, c.as_key.ensures) (took c.self.inside ms c.self.invariant can rise.0)

pub invariant_of-self : goal.invariant_of-self
invariant_of-self g c = (done g c).is_node

pub returns-clause-accepted : goal.returns-clause-accepted
returns-clause-accepted g c = rw (← c.self.view_is) (done g c).is
