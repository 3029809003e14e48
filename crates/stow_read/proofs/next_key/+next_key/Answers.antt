use Rattle.std.proofs.Common.{◌<◌, [], length, sym, ap, ◌∙◌, subst, rules}
use Rattle.std.specs.Option.{option_map}
use Rattle.stow_node.specs.StowMessage.MessageBuf.{MessageList}
use Rattle.stow_node.specs.StowLeaf.Intervals.{top_key, spans}
use Rattle.stow_node.proofs.StowLeaf.Intervals.{lt}
use Rattle.stow_node.specs.Nodes.{parts_of, part_of}
use Rattle.stow_tree_model.specs.Messages.{ops_in}
use Rattle.stow_tree_model.specs.declared.tenant_key.TenantKey.{TenantKey}
use Rattle.stow_read.specs.Descent.{part_messages}
use Rattle.stow_read.specs.NextKey.{IsNextKey}
use Rattle.stow_read.proofs.NextBelow.{clear_first, leaf_next, node_next, child_clear, child_found, children_end, children_done, from_inside, child_lower, some_mapped}
use Rattle.stow_read.proofs.next_key.+next_key.Goals as goal
use Rattle.stow_read.proofs.next_key.+next_key.Goals.{in-Leaf, in-Node}

pub loop-i-init : goal.loop-i-init
loop-i-init g t c = clear_first (parts_of c.children-children.result.now) c.args.start.key.bytes.now c.args.start.after c.lower_end-end.result.bytes.now c.child_for-first.result (record { low = []; height = 0; messages = []; leaves = []; weight = 0 }) c.child_for-first.ensures

pub returns-then-not-is_below : goal.returns-then-not-is_below
returns-then-not-is_below g t c =
    children_end c.args.node.now c.children-children.result.now c.args.start.key.bytes.now c.args.start.after c.args.to.bytes.now c.lower_end-end.result.bytes.now c.child_for-first.result c.loop-i.i c.index-children-i.result (option_map (λ (k : TenantKey). k.bytes.now) c.next_in_buffer-own.result) c.children-children.ensures c.loop-i-test.true c.index-children-i.is c.loop-i.invariant
    (subst (λ (b : MessageList). IsNextKey (ops_in b.messages) c.args.start.key.bytes.now c.args.start.after c.args.to.bytes.now (option_map (λ (k : TenantKey). k.bytes.now) c.next_in_buffer-own.result)) c.buffer.ensures c.next_in_buffer-own.ensures) c.lower_end-end.ensures (ap (λ k. lt k c.lower_end-end.result.bytes.now) (sym c.low.ensures) ∙ sym c.is_below.ensures ∙ c.if-not-is_below.true)

pub next_key-found-requires : goal.next_key-found-requires
next_key-found-requires g t c κs within =
    let child = c.index-children-i-in-loop-i.result in
    let less : c.in-Node.lower.height < c.args.node.now.height = child_lower c.args.node.now c.children-children.result.now c.loop-i.i child c.in-Node.lower c.children-children.ensures c.loop-i-test.true c.index-children-i-in-loop-i.is c.in-Node.is in (
      search (rules, less),
      (
        within,
        ap (λ d. spans (part_of d).low top_key c.start_in-from.result.key.bytes.now) (sym c.in-Node.is)
            ∙ from_inside c.args.node.now c.children-children.result.now c.args.start.key.bytes.now c.args.start.after c.child_for-first.result c.loop-i.i child c.start_in-from.result.key.bytes.now c.start_in-from.result.after c.children-children.ensures c.child_for-first.ensures c.loop-i.invariant.from c.loop-i-test.true c.index-children-i-in-loop-i.is c.start_in-from.ensures,
      ),
    )

pub returns-then-is_some : goal.returns-then-is_some
returns-then-is_some g t c =
    let child = c.index-children-i-in-loop-i.result in
    let inside : c.loop-i.i < length c.children-children.result.now = c.loop-i-test.true in
    let next : IsNextKey (ops_in (part_messages (part_of child))) c.start_in-from.result.key.bytes.now c.start_in-from.result.after c.lower_end-end.result.bytes.now (option_map (λ (k : TenantKey). k.bytes.now) c.match-children-i.found) =
    elim c.match-children-i.branch [
      | in-Leaf w ↦ subst (λ found. IsNextKey (ops_in (part_messages (part_of child))) c.start_in-from.result.key.bytes.now c.start_in-from.result.after c.lower_end-end.result.bytes.now (option_map (λ (k : TenantKey). k.bytes.now) found)) (sym w.found-is)
          (leaf_next child w.in-Leaf.leaf c.start_in-from.result.key.bytes.now c.start_in-from.result.after c.lower_end-end.result.bytes.now _ w.in-Leaf.is w.next_in_rows-next.ensures)
      | in-Node w ↦ subst (λ found. IsNextKey (ops_in (part_messages (part_of child))) c.start_in-from.result.key.bytes.now c.start_in-from.result.after c.lower_end-end.result.bytes.now (option_map (λ (k : TenantKey). k.bytes.now) found)) (sym w.found-is)
          (node_next child w.in-Node.lower c.start_in-from.result.key.bytes.now c.start_in-from.result.after c.lower_end-end.result.bytes.now _ w.in-Node.is w.next_key-found.ensures)
    ] in
    child_found c.args.node.now c.children-children.result.now c.args.start.key.bytes.now c.args.start.after c.args.to.bytes.now c.lower_end-end.result.bytes.now c.child_for-first.result c.loop-i.i child c.start_in-from.result.key.bytes.now c.start_in-from.result.after (option_map (λ (k : TenantKey). k.bytes.now) c.next_in_buffer-own.result) (option_map (λ (k : TenantKey). k.bytes.now) c.match-children-i.found) c.children-children.ensures inside c.index-children-i-in-loop-i.is c.loop-i.invariant c.start_in-from.ensures
    (subst (λ (b : MessageList). IsNextKey (ops_in b.messages) c.args.start.key.bytes.now c.args.start.after c.args.to.bytes.now (option_map (λ (k : TenantKey). k.bytes.now) c.next_in_buffer-own.result)) c.buffer.ensures c.next_in_buffer-own.ensures) c.lower_end-end.ensures next (some_mapped (λ (k : TenantKey). k.bytes.now) c.match-children-i.found ∙ sym c.is_some.ensures ∙ c.if-is_some.true)

pub loop-i-preserved : goal.loop-i-preserved
loop-i-preserved g t c =
    let child = c.index-children-i-in-loop-i.result in
    let inside : c.loop-i.i < length c.children-children.result.now = c.loop-i-test.true in
    let next : IsNextKey (ops_in (part_messages (part_of child))) c.start_in-from.result.key.bytes.now c.start_in-from.result.after c.lower_end-end.result.bytes.now (option_map (λ (k : TenantKey). k.bytes.now) c.match-children-i.found) =
    elim c.match-children-i.branch [
      | in-Leaf w ↦ subst (λ found. IsNextKey (ops_in (part_messages (part_of child))) c.start_in-from.result.key.bytes.now c.start_in-from.result.after c.lower_end-end.result.bytes.now (option_map (λ (k : TenantKey). k.bytes.now) found)) (sym w.found-is)
          (leaf_next child w.in-Leaf.leaf c.start_in-from.result.key.bytes.now c.start_in-from.result.after c.lower_end-end.result.bytes.now _ w.in-Leaf.is w.next_in_rows-next.ensures)
      | in-Node w ↦ subst (λ found. IsNextKey (ops_in (part_messages (part_of child))) c.start_in-from.result.key.bytes.now c.start_in-from.result.after c.lower_end-end.result.bytes.now (option_map (λ (k : TenantKey). k.bytes.now) found)) (sym w.found-is)
          (node_next child w.in-Node.lower c.start_in-from.result.key.bytes.now c.start_in-from.result.after c.lower_end-end.result.bytes.now _ w.in-Node.is w.next_key-found.ensures)
    ] in
    child_clear c.args.node.now c.children-children.result.now c.args.start.key.bytes.now c.args.start.after c.lower_end-end.result.bytes.now c.child_for-first.result c.loop-i.i child c.start_in-from.result.key.bytes.now c.start_in-from.result.after (option_map (λ (k : TenantKey). k.bytes.now) c.match-children-i.found) c.children-children.ensures c.child_for-first.ensures inside c.index-children-i-in-loop-i.is c.loop-i.invariant c.start_in-from.ensures
    next (some_mapped (λ (k : TenantKey). k.bytes.now) c.match-children-i.found ∙ sym c.is_some.ensures ∙ c.if-is_some.false)

pub returns : goal.returns
returns g t c =
    children_done c.args.node.now c.children-children.result.now c.args.start.key.bytes.now c.args.start.after c.args.to.bytes.now c.lower_end-end.result.bytes.now c.child_for-first.result c.loop-i.i (option_map (λ (k : TenantKey). k.bytes.now) c.next_in_buffer-own.result) c.children-children.ensures c.loop-i-test.false c.loop-i.invariant
    (subst (λ (b : MessageList). IsNextKey (ops_in b.messages) c.args.start.key.bytes.now c.args.start.after c.args.to.bytes.now (option_map (λ (k : TenantKey). k.bytes.now) c.next_in_buffer-own.result)) c.buffer.ensures c.next_in_buffer-own.ensures) c.lower_end-end.ensures
