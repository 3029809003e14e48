use Rattle.std.proofs.Common.{◌≡◌, ◌<◌, ◌≤◌, length, refl, sym, ap, ◌∙◌, subst, arith, length-append}
use Rattle.std.specs.Prelude.{slice_set}
use Rattle.stow_leaves.proofs.StowLeaf.Steps.{inside_of}
use Rattle.stow_leaves.proofs.Forgotten.{on_err}
use Rattle.stow_node.specs.declared.child.Child.TheVariants as in_child
use Rattle.stow_node.specs.Flushes.{AreShort}
use Rattle.stow_node.specs.Subtree.{Subtree, messages_of}
use Rattle.stow_node.proofs.HandedDown.{same_node}
use Rattle.stow_node.proofs.Split.{SplitAt, split_at, set_same, no_leaf}
use Rattle.stow_node.proofs.moving.unlade.Given as given
use Rattle.stow_node.proofs.moving.unlade.Goals as goal
use Rattle.stow_node.proofs.moving.unlade.Goals.{In-Node}

here : (g : given.Over) (c : In-Node g) → SplitAt c.args.children.now c.split_at_mut-rest.result.0.now c.split_at_mut-rest.result.1.now c.args.index (in_child.Node c.in-Node.node)
here g c = split_at c.args.children.now c.split_at_mut-rest.result.0.now c.split_at_mut-rest.result.1.now c.args.index c.index-rest-0.result (in_child.Node c.in-Node.node) c.split_at_mut-rest.ensures.value c.split_at_mut-rest.ensures.front_len
    (inside_of c.args.children.now c.args.index (in_child.Node c.requires.node) c.requires.at) c.in-Node.is

is_node : (g : given.Over) (c : In-Node g) → c.requires.node ≡ c.in-Node.node
is_node g c = same_node c.requires.node c.in-Node.node (sym c.requires.at ∙ (here g c).at)

pub split_at_mut-rest-requires : goal.split_at_mut-rest-requires
split_at_mut-rest-requires g c = let l = inside_of c.args.children.now c.args.index (in_child.Node c.requires.node) c.requires.at in omega (arith, l)

pub bounds-rest-0 : goal.bounds-rest-0
bounds-rest-0 g c =
    let l = inside_of c.args.children.now c.args.index (in_child.Node c.requires.node) c.requires.at in
    let e = ap length c.split_at_mut-rest.ensures.value ∙ length-append c.split_at_mut-rest.result.0.now c.split_at_mut-rest.result.1.now in
    let f = c.split_at_mut-rest.ensures.front_len in
    omega (arith, l, e, f)

pub unreachable-requires : goal.unreachable-requires
unreachable-requires g c = no_leaf c.args.children.now c.args.index c.in-Leaf.field-0 c.requires.node
    (split_at c.args.children.now c.split_at_mut-rest.result.0.now c.split_at_mut-rest.result.1.now c.args.index c.index-rest-0.result (in_child.Leaf c.in-Leaf.field-0) c.split_at_mut-rest.ensures.value c.split_at_mut-rest.ensures.front_len
    (inside_of c.args.children.now c.args.index (in_child.Node c.requires.node) c.requires.at) c.in-Leaf.is).at
    c.requires.at

pub returns-then-not-is_laden-clause-unlades : goal.returns-then-not-is_laden-clause-unlades
returns-then-not-is_laden-clause-unlades g c =
    let h = here g (goal.at.returns-then-not-is_laden-clause-unlades g c).In-Node in
    record {
      node = c.in-Node.node;
      at = h.at;
      light = λ l. let t = c.is_laden.ensures.1 l in let f = c.if-not-is_laden.true in cc;
      stays = h.set (in_child.Node c.in-Node.node) ∙ set_same c.args.children.now c.args.index (in_child.Node c.in-Node.node) h.at;
      same = refl;
    }

pub merge_all-requires-clause-level : goal.merge_all-requires-clause-level
merge_all-requires-clause-level g c = (c.is_laden.ensures.0 c.if-not-is_laden.false).0

pub merge_all-requires-clause-some : goal.merge_all-requires-clause-some
merge_all-requires-clause-some g c = subst (λ (s : Subtree). 0 < length s.buffer.messages) (is_node g (goal.at.merge_all-requires-clause-some g c).In-Node) c.requires.some

pub merge_all-requires-clause-fan_out : goal.merge_all-requires-clause-fan_out
merge_all-requires-clause-fan_out g c = subst (λ (s : Subtree). 1 ≤ s.shape.fan_out) (is_node g (goal.at.merge_all-requires-clause-fan_out g c).In-Node) c.requires.fan_out

pub merge_all-requires-clause-short : goal.merge_all-requires-clause-short
merge_all-requires-clause-short g c = subst (λ (s : Subtree). AreShort (messages_of s)) (is_node g (goal.at.merge_all-requires-clause-short g c).In-Node) c.requires.short

pub returns-in_err-merge_all-in-Node-clause-err : goal.returns-in_err-merge_all-in-Node-clause-err
returns-in_err-merge_all-in-Node-clause-err g c =
    let h = here g (goal.at.returns-in_err-merge_all-in-Node-clause-err g c).In-Node in
    on_err c.from_residual.result (h.set (in_child.Node c.merge_all.new.self) ∙ ap (λ n. slice_set c.args.children.now c.args.index (in_child.Node n)) c.in_err-merge_all-in-Node.ensures.err ∙ set_same c.args.children.now c.args.index (in_child.Node c.in-Node.node) h.at)

pub returns-clause-unlades : goal.returns-clause-unlades
returns-clause-unlades g c =
    let h = here g (goal.at.returns-clause-unlades g c).In-Node in
    record {
      node = c.in-Node.node;
      at = h.at;
      laden = c.is_laden.ensures.0 c.if-not-is_laden.false;
      merged = c.merge_all.new.self;
      into = h.set (in_child.Node c.merge_all.new.self);
      steps = c.in_ok-merge_all-in-Node.ensures.ok;
      merges = c.in_ok-merge_all-in-Node.ensures.merges;
      has_room = c.in_ok-merge_all-in-Node.ensures.room;
      forgets = c.in_ok-merge_all-in-Node.ensures.cache;
    }
