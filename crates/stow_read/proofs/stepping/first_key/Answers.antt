use Rattle.std.proofs.Common.{false, None, sym, ap, ◌∙◌, subst}
use Rattle.std.specs.Option.{option_map}
use Rattle.stow_node.specs.StowLeaf.Intervals.{top_key, spans}
use Rattle.stow_node.proofs.StowLeaf.Intervals.{lt, lt_self}
use Rattle.stow_node.specs.Subtree.{messages_of}
use Rattle.stow_tree_model.specs.Messages.{ops_in}
use Rattle.stow_tree_model.specs.declared.tenant_key.TenantKey.{TenantKey}
use Rattle.stow_read.specs.NextKey.{IsNextKey}
use Rattle.stow_read.specs.declared.start.Start.{Start}
use Rattle.stow_read.proofs.FirstKeys.{from_low, none_from}
use Rattle.stow_read.proofs.stepping.first_key.Goals as goal
use Rattle.stow_read.proofs.stepping.first_key.Goals.{then-is_below, else-is_below}

pub returns-then-may_hold : goal.returns-then-may_hold
returns-then-may_hold g c =
    let found = option_map (λ (k : TenantKey). k.bytes.now) c.next_key.result in
    elim (c.if-is_below.branch) [
      | then-is_below w ↦ from_low c.args.node.now c.children-known.result.now c.args.start.key.bytes.now c.args.start.after c.args.to.bytes.now found c.children-known.ensures
          (ap (lt c.args.start.key.bytes.now) (sym c.low.ensures) ∙ sym c.is_below.ensures ∙ w.if-is_below.true)
          (subst (λ k. IsNextKey (ops_in (messages_of c.args.node.now)) k false c.args.to.bytes.now found) w.low-then-is_below.ensures
          (subst (λ (s : Start). IsNextKey (ops_in (messages_of c.args.node.now)) s.key.bytes.now s.after c.args.to.bytes.now found) w.from-is c.next_key.ensures))
      | else-is_below w ↦ subst (λ (s : Start). IsNextKey (ops_in (messages_of c.args.node.now)) s.key.bytes.now s.after c.args.to.bytes.now found) w.from-is c.next_key.ensures
    ]

pub returns-else-may_hold : goal.returns-else-may_hold
returns-else-may_hold g c = elim (c.if-is_below.branch) [
  | then-is_below w ↦ from_low c.args.node.now c.children-known.result.now c.args.start.key.bytes.now c.args.start.after c.args.to.bytes.now None c.children-known.ensures
      (ap (lt c.args.start.key.bytes.now) (sym c.low.ensures) ∙ sym c.is_below.ensures ∙ w.if-is_below.true)
      (none_from c.args.node.now c.children-known.result.now c.args.node.now.low false c.args.to.bytes.now c.children-known.ensures (lt_self c.args.node.now.low)
      (ap (spans c.args.node.now.low top_key) (sym (ap (λ (s : Start). s.key.bytes.now) w.from-is ∙ w.low-then-is_below.ensures)) ∙ sym c.may_hold.ensures ∙ c.if-may_hold.false))
  | else-is_below w ↦ none_from c.args.node.now c.children-known.result.now c.args.start.key.bytes.now c.args.start.after c.args.to.bytes.now c.children-known.ensures
      (ap (lt c.args.start.key.bytes.now) (sym c.low.ensures) ∙ sym c.is_below.ensures ∙ w.if-is_below.false)
      (ap (λ (s : Start). spans c.args.node.now.low top_key s.key.bytes.now) (sym w.from-is) ∙ sym c.may_hold.ensures ∙ c.if-may_hold.false)
]
