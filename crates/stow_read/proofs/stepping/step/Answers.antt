use Rattle.std.proofs.Common.{Some, true, ◌∙◌, sym, subst}
use Rattle.std.specs.Prelude.{IfSome}
use Rattle.stow_node.specs.Subtree.{messages_of}
use Rattle.stow_tree_model.specs.Messages.{ops_in}
use Rattle.stow_read.specs.NextKey.{IsNextKey}
use Rattle.stow_read.specs.Way.{key_in, way_ops, WayStandsAt}
use Rattle.stow_read.proofs.FirstKeys.{held_inside}
use Rattle.stow_read.proofs.Ways.{next_on_way, at_next}
use Rattle.stow_read.proofs.stepping.step.Goals as goal

pub returns-then-is_below-clause-next : goal.returns-then-is_below-clause-next
returns-then-is_below-clause-next g c =
    next_on_way c.args.node.now c.args.way.now c.pass.new.self c.args.key.bytes.now c.args.to.bytes.now c.in-Some.next.bytes.now c.requires.at c.pass.ensures.same
    (subst (λ next. IsNextKey (way_ops c.pass.new.self) c.args.key.bytes.now true c.args.to.bytes.now (key_in next)) c.in-Some.is c.pass.ensures.next)
    (sym c.is_below.ensures ∙ c.if-is_below.true)

pub returns-then-is_below-clause-at : goal.returns-then-is_below-clause-at
returns-then-is_below-clause-at g c =
    let low : IsNextKey (way_ops c.pass.new.self) c.args.key.bytes.now true c.args.to.bytes.now (Some c.in-Some.next.bytes.now) = subst (λ next. IsNextKey (way_ops c.pass.new.self) c.args.key.bytes.now true c.args.to.bytes.now (key_in next)) c.in-Some.is c.pass.ensures.next in
    at_next c.args.node.now c.args.way.now c.pass.new.self c.args.key.bytes.now c.args.to.bytes.now c.in-Some.next.bytes.now c.requires.at c.pass.ensures.same low.from
    (sym c.is_below.ensures ∙ c.if-is_below.true)
    (subst (λ next. IfSome next (λ k. WayStandsAt c.pass.new.self k.bytes.now c.args.to.bytes.now)) c.in-Some.is c.pass.ensures.stands)

pub to-requires : goal.to-requires
to-requires g c =
    let low : IsNextKey (ops_in (messages_of c.args.node.now)) c.args.key.bytes.now true c.args.to.bytes.now (Some c.in-Some-next_key.next.bytes.now) = subst (λ next. IsNextKey (ops_in (messages_of c.args.node.now)) c.args.key.bytes.now true c.args.to.bytes.now (key_in next)) c.in-Some-next_key.is c.next_key.ensures in
    held_inside c.args.node.now c.children-known.result.now c.in-Some-next_key.next.bytes.now c.children-known.ensures (record { number = low.number; there = low.there })
