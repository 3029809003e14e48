use Rattle.std.proofs.Common.{◌≡◌, List, sym, subst, inr}
use Rattle.stow_leaves.proofs.StowLeaf.Steps.{if_ok}
use Rattle.stow_leaves.specs.StowMerge.Pins.{pins_in}
use Rattle.stow_leaves.specs.StowMessage.MessageBuf.{MessageList}
use Rattle.stow_node.specs.declared.child.Child.{Child}
use Rattle.stow_node.specs.Moves.{HandsDown}
use Rattle.stow_node.specs.Nodes.{leaves_of}
use Rattle.stow_node.specs.TakesDown.{MergesDown}
use Rattle.stow_node.proofs.Straight.{can_unlade, err_then, kept_again, skipped, taken_then}
use Rattle.stow_node.proofs.moving.take_down.Given as given
use Rattle.stow_node.proofs.moving.take_down.Goals as goal
use Rattle.stow_node.proofs.moving.take_down.Goals.{After-hand_down}

-- nothing was merged before it took them
as_before : (g : given.Over) (c : After-hand_down g) → (c.merge_down.new.children ≡ c.args.children.now) × ((c.merge_down.new.buffer ≡ c.args.buffer.now) × (c.merge_down.new.cache ≡ c.args.cache.now))
as_before g c = skipped (MergesDown (pins_in c.args.pins.now) c.args.children.now c.args.index c.args.buffer.now c.args.above.now) c.in_ok-straight.straight c.args.children.now c.merge_down.new.children c.args.buffer.now c.merge_down.new.buffer c.args.cache.now c.merge_down.new.cache c.in_ok-straight.ensures.merges c.in_default.is

down : (g : given.Over) (c : After-hand_down g) → HandsDown c.args.children.now c.args.index c.args.buffer.now c.hand_down.new.children c.hand_down.new.buffer
down g c =
    let b = as_before g c in
    subst (λ (l : List (Child g.row.A.Denot)). HandsDown l c.args.index c.args.buffer.now c.hand_down.new.children c.hand_down.new.buffer) b.0
    (subst (λ (m : MessageList). HandsDown c.merge_down.new.children c.args.index m c.hand_down.new.children c.hand_down.new.buffer) b.1.0 c.hand_down.ensures)

pub unlade-requires : goal.unlade-requires
unlade-requires g c = can_unlade c.args.children.now c.args.index c.args.buffer.now c.hand_down.new.children c.hand_down.new.buffer c.requires.can (down g (goal.at.unlade-requires g c).After-hand_down)

pub returns-clause-takes : goal.returns-clause-takes
returns-clause-takes g c = if_ok c.unlade.result _ _ (λ room u.
    taken_then (pins_in c.args.pins.now) c.args.children.now c.args.index c.args.buffer.now c.args.above.now c.hand_down.new.children c.hand_down.new.buffer room c.unlade.new.children c.args.cache.now c.unlade.new.cache
    (down g (goal.at.returns-clause-takes g c).After-hand_down) u) (rw (← (as_before g (goal.at.returns-clause-takes g c).After-hand_down).1.1) c.unlade.ensures.unlades)

pub returns-clause-err : goal.returns-clause-err
returns-clause-err g c = err_then c.unlade.result
    (λ e. inr (subst (λ (l : List (Child g.row.A.Denot)). HandsDown c.args.children.now c.args.index c.args.buffer.now l c.hand_down.new.buffer) (sym e) (down g (goal.at.returns-clause-err g c).After-hand_down)))
    c.unlade.ensures.err

pub returns-clause-kept : goal.returns-clause-kept
returns-clause-kept g c = err_then c.unlade.result (λ f. kept_again (leaves_of c.hand_down.new.children) (leaves_of c.args.children.now) _ c.unlade.new.cache (rw (← (as_before g (goal.at.returns-clause-kept g c).After-hand_down).1.1) f)) c.unlade.ensures.kept
