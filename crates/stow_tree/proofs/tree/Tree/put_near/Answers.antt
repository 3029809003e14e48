use Rattle.std.proofs.Common.{[], ◌∷◌, map, refl, ap, arith}
use Rattle.stow_flush.specs.StowNode.Subtree.{Subtree}
use Rattle.stow_tree_model.specs.TreeMessage.{message_of}
use Rattle.stow_tree.specs.declared.tree.Tree.TheInside.{Inside}
use Rattle.stow_tree.proofs.Putting.{IsPutting, putting_first, can_push, putting_on, putting_last}
use Rattle.stow_tree.proofs.tree.Tree.put_near.Goals as goal
use Rattle.stow_tree.proofs.tree.Tree.put_near.Given as given

pub push_near-requires : goal.push_near-requires
push_near-requires g c = can_push (c.args.message ∷ []) c.args.self.now c.self.inside 0 c.args.message (omega arith) refl
    (putting_first (map message_of (c.args.message ∷ [])) c.args.self.now c.self.inside c.self.view_is c.self.invariant c.requires)

abbrev new : (g : given.Over) → goal.After-push_near g → Inside g.row.A.Denot
new g c = record c.self.inside { root = c.push_near.new.self }

done : (g : given.Over) (c : goal.After-push_near g) → IsPutting (map message_of (c.args.message ∷ [])) c.args.self.now (new g c) 1
done g c = putting_on (c.args.message ∷ []) c.args.self.now c.self.inside (new g c) 0 c.args.message (omega arith) refl
    (putting_first (map message_of (c.args.message ∷ [])) c.args.self.now c.self.inside c.self.view_is c.self.invariant c.requires)
    (ap (λ (r : Subtree). record c.self.inside { root = r }) c.push_near.ensures)

pub invariant_of-self : goal.invariant_of-self
invariant_of-self g c = (done g c).is_tree

pub returns : goal.returns
returns g c = putting_last (c.args.message ∷ []) c.args.self.now (new g c) 1 (omega arith) (done g c)
