use Rattle.std.proofs.Common.{◌≡◌, length, sym, ap, ◌∙◌, arith}
use Rattle.std.proofs.lemmas.List.{length-take-le}
use Rattle.stow_leaves.specs.StowMessage.MessageBuf.{MessageList}
use Rattle.stow_leaves.specs.StowMessage.Rising.{is_between}
use Rattle.stow_node.specs.Nodes.{part_of}
use Rattle.stow_node.specs.declared.child.Child.{Child}
use Rattle.stow_node.specs.declared.shape.Shape.{Shape}
use Rattle.stow_node.specs.Subtree.{Subtree}
use Rattle.stow_node.proofs.Cut.{Cut, cut_at}
use Rattle.stow_node.proofs.Filled.{some_bytes}
use Rattle.stow_node.proofs.Reallocated.{block_most}
use Rattle.stow_node.proofs.node.Node.cut_off.Goals as goal

pub index-requires : goal.index-requires
index-requires g c = let r = c.requires.inside.1 in let v = ap (λ (s : Subtree). s.width) c.self.view_is in let o = c.self.inside.children.ok.0 in omega (arith, r, v, o)

pub copied-low-requires-clause-empty : goal.copied-low-requires-clause-empty
copied-low-requires-clause-empty g c = c.into_parts-list.ensures.fence

pub copied-low-requires-clause-long : goal.copied-low-requires-clause-long
copied-low-requires-clause-long g c = c.into_parts-list.ensures.long

pub moved_from-children-requires-clause-inside : goal.moved_from-children-requires-clause-inside
moved_from-children-requires-clause-inside g c = let r = c.requires.inside.1 in let v = ap (λ (s : Subtree). s.width) c.self.view_is in let o = c.self.inside.children.ok.0 in omega (arith, r, v, o)

pub moved_from-children-requires-clause-empty : goal.moved_from-children-requires-clause-empty
moved_from-children-requires-clause-empty g c = c.into_parts-list.ensures.children

pub moved_from-children-requires-clause-places : goal.moved_from-children-requires-clause-places
moved_from-children-requires-clause-places g c =
    let f = c.requires.few in
    let v = ap (λ (s : Subtree). s.width) c.self.view_is in
    let o = c.self.inside.children.ok.0 in
    let e = ap (λ (s : Shape). s.fan_out) c.requires.shape in
    let p = c.into_parts-list.ensures.places in
    omega (arith, f, v, o, e, p)

pub move_range-requires-clause-room : goal.move_range-requires-clause-room
move_range-requires-clause-room g c =
    let own : c.args.shell.buffer ≡ c.self.inside.shape.buffer = ap (λ (s : Shape). s.buffer) c.requires.shape ∙ sym (ap (λ (s : Subtree). s.shape.buffer) c.self.view_is) in
    rw c.into_parts-list.ensures.buffer (let s = some_bytes (is_between c.as_key.result.bytes.now c.top_key.result.bytes.now) c.self.inside.buffer.messages in
    let l = c.used-known.ensures.live in
    let w = c.used-known.ensures.within in
    let f = block_most c.self.inside.shape.buffer c.self.inside.buffer c.self.invariant.block in
    omega (arith, s, l, w, f, own))

pub move_range-requires-clause-new : goal.move_range-requires-clause-new
move_range-requires-clause-new g c = λ k d l k' d' l'. absurd (let e = ap (λ (b : MessageList). length b.messages) c.into_parts-list.ensures.buffer in omega (arith, l', e))

pub invariant_of-self : goal.invariant_of-self
invariant_of-self g c =
    let done : Cut c.self.inside c.moved_from-children.new.from c.moved_from-children.result c.copied-low.result = cut_at c.self.inside c.moved_from-children.new.from c.moved_from-children.result c.copied-low.result c.args.at c.index.result.now c.self.invariant c.requires.inside.0
    (let r = c.requires.inside.1 in let v = ap (λ (s : Subtree). s.width) c.self.view_is in omega (arith, r, v))
    c.moved_from-children.ensures.left c.moved_from-children.ensures.moved
    (c.copied-low.ensures ∙ c.low.ensures ∙ ap (λ (x : Child g.row.A.Denot). (part_of x).low) c.index.ensures)
    c.len-known.ensures.rising in
    rw (c.move_range.ensures.rest, c.as_key.ensures, c.top_key.ensures, c.note.ensures, c.note-2.ensures) done.lower

pub invariant_of-result : goal.invariant_of-result
invariant_of-result g c =
    let own : c.args.shell.buffer ≡ c.self.inside.shape.buffer = ap (λ (s : Shape). s.buffer) c.requires.shape ∙ sym (ap (λ (s : Subtree). s.shape.buffer) c.self.view_is) in
    let done : Cut c.self.inside c.moved_from-children.new.from c.moved_from-children.result c.copied-low.result = cut_at c.self.inside c.moved_from-children.new.from c.moved_from-children.result c.copied-low.result c.args.at c.index.result.now c.self.invariant c.requires.inside.0
    (let r = c.requires.inside.1 in let v = ap (λ (s : Subtree). s.width) c.self.view_is in omega (arith, r, v))
    c.moved_from-children.ensures.left c.moved_from-children.ensures.moved
    (c.copied-low.ensures ∙ c.low.ensures ∙ ap (λ (x : Child g.row.A.Denot). (part_of x).low) c.index.ensures)
    c.len-known.ensures.rising in
    rw (c.move_range.ensures.moved, c.into_parts-list.ensures.buffer, c.as_key.ensures, c.top_key.ensures, c.note.ensures, own) done.upper

pub returns-clause-halves : goal.returns-clause-halves
returns-clause-halves g c =
    let own : c.args.shell.buffer ≡ c.self.inside.shape.buffer = ap (λ (s : Shape). s.buffer) c.requires.shape ∙ sym (ap (λ (s : Subtree). s.shape.buffer) c.self.view_is) in
    let done : Cut c.self.inside c.moved_from-children.new.from c.moved_from-children.result c.copied-low.result = cut_at c.self.inside c.moved_from-children.new.from c.moved_from-children.result c.copied-low.result c.args.at c.index.result.now c.self.invariant c.requires.inside.0
    (let r = c.requires.inside.1 in let v = ap (λ (s : Subtree). s.width) c.self.view_is in omega (arith, r, v))
    c.moved_from-children.ensures.left c.moved_from-children.ensures.moved
    (c.copied-low.ensures ∙ c.low.ensures ∙ ap (λ (x : Child g.row.A.Denot). (part_of x).low) c.index.ensures)
    c.len-known.ensures.rising in
    rw (← c.self.view_is) (rw (c.move_range.ensures.rest, c.move_range.ensures.moved, c.into_parts-list.ensures.buffer, c.as_key.ensures, c.top_key.ensures, c.note.ensures, c.note-2.ensures, own) done.halves)

pub returns-clause-width : goal.returns-clause-width
returns-clause-width g c =
    let r = c.requires.inside.1 in
    let v = ap (λ (s : Subtree). s.width) c.self.view_is in
    ap length c.moved_from-children.ensures.left ∙ length-take-le c.args.at c.self.inside.children.items (omega (arith, r, v))
