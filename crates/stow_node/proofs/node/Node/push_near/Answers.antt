use Rattle.std.proofs.Common.{[], ◌∷◌, sym, subst, arith}
use Rattle.std.proofs.lemmas.List.Sums.{sum_by-cons}
use Rattle.stow_leaves.specs.StowMessage.Packed.{message_size}
use Rattle.stow_tree_model.specs.TreeMessage.{message_of}
use Rattle.stow_node.specs.Moves.{CanAccept}
use Rattle.stow_node.proofs.Accepted.{Took, others, took_one}
use Rattle.stow_node.proofs.Newer.{are_new}
use Rattle.stow_node.proofs.node.Node.push_near.Goals as goal
use Rattle.stow_node.proofs.node.Node.push_near.Given as given

pub push_near-requires : goal.push_near-requires
push_near-requires g c =
    let m = message_of c.args.message in
    let can = subst (CanAccept (m ∷ [])) (sym c.self.view_is) c.requires in
    let room = can.room in
    (omega (arith, sum_by-cons message_size m []), are_new (m ∷ []) c.self.inside.buffer.messages (others c.self.inside (m ∷ []) can) 0 m (omega arith))

done : (g : given.Over) (c : goal.After-push_near g) → Took c.self.inside (message_of c.args.message ∷ []) c.push_near.new.self
done g c =
    let m = message_of c.args.message in
    rw c.push_near.ensures (took_one c.self.inside m c.self.invariant (subst (CanAccept (m ∷ [])) (sym c.self.view_is) c.requires))

pub invariant_of-self : goal.invariant_of-self
invariant_of-self g c = (done g c).is_node

pub returns : goal.returns
returns g c = rw (← c.self.view_is) (done g c).is
