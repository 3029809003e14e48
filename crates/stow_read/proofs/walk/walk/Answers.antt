use Rattle.std.proofs.Common.{◌<◌, List, Option, Some, None, sym, ap, ◌∙◌, subst, arith, Vec}
use Rattle.std.specs.Prelude.{IfSome}
use Rattle.std.proofs.lemmas.List.{length-map}
use Rattle.stow_node.specs.Subtree.{messages_of}
use Rattle.stow_tree_model.specs.Messages.{ops_in}
use Rattle.stow_tree_model.specs.Operations.{Operations, value_in}
use Rattle.stow_tree_model.specs.Value.{IsValue}
use Rattle.stow_tree_model.specs.declared.tenant_key.TenantKey.{TenantKey}
use Rattle.stow_read.specs.NextKey.{IsNextKey}
use Rattle.stow_read.specs.Walk.{IsHeadOf}
use Rattle.stow_read.specs.Way.{key_in, IsAt}
use Rattle.stow_read.specs.declared.row_head.RowHead.{RowHead}
use Rattle.stow_read.proofs.FirstKeys.{left_from, fewer_left, held_inside, inside_to}
use Rattle.stow_read.proofs.Walks.{IsWalkSoFar, walk_first, walk_past, walk_more, walk_all, walk_enough}
use Rattle.stow_read.proofs.Ways.{ready_for, told_by_way, all_by_way}
use Rattle.stow_read.proofs.walk.walk.Goals as goal
use Rattle.stow_read.proofs.walk.walk.Goals.{in-Some-2+in_ok-push, in_default-2}

pub returns-in_default : goal.returns-in_default
returns-in_default g c =
    walk_all (ops_in (messages_of c.args.node.now)) c.args.from.key.bytes.now c.args.from.after c.args.to.bytes.now c.args.at c.args.count c.new-rows.result.items
    (subst (λ (items : List (RowHead g.row.A.Denot)). IsWalkSoFar (ops_in (messages_of c.args.node.now)) c.args.from.key.bytes.now c.args.from.after c.args.to.bytes.now c.args.at c.args.count items None) (sym c.new-rows.ensures.items)
    (walk_first (ops_in (messages_of c.args.node.now)) c.args.from.key.bytes.now c.args.from.after c.args.to.bytes.now c.args.at c.args.count None
    (subst (λ (next : Option TenantKey). IsNextKey (ops_in (messages_of c.args.node.now)) c.args.from.key.bytes.now c.args.from.after c.args.to.bytes.now (key_in next)) c.in_default.is c.first_key.ensures)))

pub to-requires : goal.to-requires
to-requires g c =
    let low : IsNextKey (ops_in (messages_of c.args.node.now)) c.args.from.key.bytes.now c.args.from.after c.args.to.bytes.now (Some c.in-Some.first.bytes.now) =
    subst (λ (next : Option TenantKey). IsNextKey (ops_in (messages_of c.args.node.now)) c.args.from.key.bytes.now c.args.from.after c.args.to.bytes.now (key_in next)) c.in-Some.is c.first_key.ensures in
    held_inside c.args.node.now c.children-known.result.now c.in-Some.first.bytes.now c.children-known.ensures (record { number = low.number; there = low.there })

pub loop-next-init : goal.loop-next-init
loop-next-init g c = record {
  rows = subst (λ (items : List (RowHead g.row.A.Denot)). IsWalkSoFar (ops_in (messages_of c.args.node.now)) c.args.from.key.bytes.now c.args.from.after c.args.to.bytes.now c.args.at c.args.count items (Some c.in-Some.first.bytes.now)) (sym c.new-rows.ensures.items)
      (walk_first (ops_in (messages_of c.args.node.now)) c.args.from.key.bytes.now c.args.from.after c.args.to.bytes.now c.args.at c.args.count (Some c.in-Some.first.bytes.now)
      (subst (λ (next : Option TenantKey). IsNextKey (ops_in (messages_of c.args.node.now)) c.args.from.key.bytes.now c.args.from.after c.args.to.bytes.now (key_in next)) c.in-Some.is c.first_key.ensures));
  way = c.in_ok-way.ensures;
}

pub returns-then-len-count : goal.returns-then-len-count
returns-then-len-count g c =
    walk_enough (ops_in (messages_of c.args.node.now)) c.args.from.key.bytes.now c.args.from.after c.args.to.bytes.now c.args.at c.args.count c.loop-next.rows.items c.in-Some-next.key.bytes.now
    (subst (λ (next : Option TenantKey). IsWalkSoFar (ops_in (messages_of c.args.node.now)) c.args.from.key.bytes.now c.args.from.after c.args.to.bytes.now c.args.at c.args.count c.loop-next.rows.items (key_in next)) c.in-Some-next.is c.loop-next.invariant.rows)
    (let o = c.loop-next.rows.ok.0 in omega (arith, o, c.len.ensures, c.if-len-count.true))

pub head-requires-clause-ready : goal.head-requires-clause-ready
head-requires-clause-ready g c =
    let now : IsWalkSoFar (ops_in (messages_of c.args.node.now)) c.args.from.key.bytes.now c.args.from.after c.args.to.bytes.now c.args.at c.args.count c.loop-next.rows.items (Some c.in-Some-next.key.bytes.now) =
    subst (λ (next : Option TenantKey). IsWalkSoFar (ops_in (messages_of c.args.node.now)) c.args.from.key.bytes.now c.args.from.after c.args.to.bytes.now c.args.at c.args.count c.loop-next.rows.items (key_in next)) c.in-Some-next.is c.loop-next.invariant.rows in
    ready_for c.args.node.now c.loop-next.way c.in-Some-next.key.bytes.now c.args.to.bytes.now
    (subst (λ (next : Option TenantKey). IfSome next (λ k. IsAt c.args.node.now c.loop-next.way k.bytes.now c.args.to.bytes.now)) c.in-Some-next.is c.loop-next.invariant.way)
    (inside_to c.args.from.key.bytes.now c.args.from.after c.args.to.bytes.now c.in-Some-next.key.bytes.now now.keys.next_is.0)

pub head-requires-clause-short : goal.head-requires-clause-short
head-requires-clause-short g c =
    subst (λ o. IsValue (value_in o))
    (sym (told_by_way c.args.node.now c.loop-next.way c.in-Some-next.key.bytes.now c.args.to.bytes.now c.args.at
    (subst (λ (next : Option TenantKey). IfSome next (λ k. IsAt c.args.node.now c.loop-next.way k.bytes.now c.args.to.bytes.now)) c.in-Some-next.is c.loop-next.invariant.way)))
    (c.requires.short c.in-Some-next.key.bytes.now c.args.at)

pub step-requires-clause-inside : goal.step-requires-clause-inside
step-requires-clause-inside g c =
    held_inside c.args.node.now c.children-known.result.now c.in-Some-next.key.bytes.now c.children-known.ensures
    (let now : IsWalkSoFar (ops_in (messages_of c.args.node.now)) c.args.from.key.bytes.now c.args.from.after c.args.to.bytes.now c.args.at c.args.count c.loop-next.rows.items (Some c.in-Some-next.key.bytes.now) =
    subst (λ (next : Option TenantKey). IsWalkSoFar (ops_in (messages_of c.args.node.now)) c.args.from.key.bytes.now c.args.from.after c.args.to.bytes.now c.args.at c.args.count c.loop-next.rows.items (key_in next)) c.in-Some-next.is c.loop-next.invariant.rows in
    now.keys.held)

pub step-requires-clause-at : goal.step-requires-clause-at
step-requires-clause-at g c = subst (λ (next : Option TenantKey). IfSome next (λ k. IsAt c.args.node.now c.loop-next.way k.bytes.now c.args.to.bytes.now)) c.in-Some-next.is c.loop-next.invariant.way

pub loop-next-smaller : goal.loop-next-smaller
loop-next-smaller g c =
    let now : IsWalkSoFar (ops_in (messages_of c.args.node.now)) c.args.from.key.bytes.now c.args.from.after c.args.to.bytes.now c.args.at c.args.count c.loop-next.rows.items (Some c.in-Some-next.key.bytes.now) =
    subst (λ (next : Option TenantKey). IsWalkSoFar (ops_in (messages_of c.args.node.now)) c.args.from.key.bytes.now c.args.from.after c.args.to.bytes.now c.args.at c.args.count c.loop-next.rows.items (key_in next)) c.in-Some-next.is c.loop-next.invariant.rows in
    subst (λ (next : Option TenantKey). left_from (messages_of c.args.node.now) (key_in c.in_ok-next.next) < left_from (messages_of c.args.node.now) (key_in next)) (sym c.in-Some-next.is)
    (fewer_left (messages_of c.args.node.now) c.args.to.bytes.now c.in-Some-next.key.bytes.now (key_in c.in_ok-next.next) now.keys.held c.in_ok-next.ensures.next)

pub loop-next-preserved : goal.loop-next-preserved
loop-next-preserved g c =
    let now : IsWalkSoFar (ops_in (messages_of c.args.node.now)) c.args.from.key.bytes.now c.args.from.after c.args.to.bytes.now c.args.at c.args.count c.loop-next.rows.items (Some c.in-Some-next.key.bytes.now) =
    subst (λ (next : Option TenantKey). IsWalkSoFar (ops_in (messages_of c.args.node.now)) c.args.from.key.bytes.now c.args.from.after c.args.to.bytes.now c.args.at c.args.count c.loop-next.rows.items (key_in next)) c.in-Some-next.is c.loop-next.invariant.rows in
    let all = all_by_way c.args.node.now c.loop-next.way c.in-Some-next.key.bytes.now c.args.to.bytes.now
    (subst (λ (next : Option TenantKey). IfSome next (λ k. IsAt c.args.node.now c.loop-next.way k.bytes.now c.args.to.bytes.now)) c.in-Some-next.is c.loop-next.invariant.way) in
    let head = subst (λ (f : Operations). IsHeadOf c.in-Some-next.key.bytes.now f c.args.at c.in_ok-head.field-0) all c.in_ok-head.ensures in
    record {
      rows = elim (c.match-branch-3.branch) [
        | in-Some-2+in_ok-push w ↦ subst (λ rows. IsWalkSoFar (ops_in (messages_of c.args.node.now)) c.args.from.key.bytes.now c.args.from.after c.args.to.bytes.now c.args.at c.args.count rows (key_in c.in_ok-next.next))
            (sym (ap (λ (rows : Vec (RowHead g.row.A.Denot) g.row.A.Denot). rows.items) w.rows-is ∙ w.in_ok-push.ensures.items))
            (walk_more (ops_in (messages_of c.args.node.now)) c.args.from.key.bytes.now c.args.from.after c.args.to.bytes.now c.args.at c.args.count c.loop-next.rows.items c.in-Some-next.key.bytes.now w.in-Some-2.head (key_in c.in_ok-next.next) now
            (subst (IsHeadOf c.in-Some-next.key.bytes.now (ops_in (messages_of c.args.node.now) c.in-Some-next.key.bytes.now) c.args.at) w.in-Some-2.is head)
            (let o = c.loop-next.rows.ok.0 in let few = now.keys.few in omega (arith, o, few, length-map c.loop-next.rows.items (λ (row : RowHead g.row.A.Denot). row.key), c.len.ensures, c.if-len-count.false))
            c.in_ok-next.ensures.next)
        | in_default-2 w ↦ subst (λ (rows : Vec (RowHead g.row.A.Denot) g.row.A.Denot). IsWalkSoFar (ops_in (messages_of c.args.node.now)) c.args.from.key.bytes.now c.args.from.after c.args.to.bytes.now c.args.at c.args.count rows.items (key_in c.in_ok-next.next)) (sym w.rows-is)
            (walk_past (ops_in (messages_of c.args.node.now)) c.args.from.key.bytes.now c.args.from.after c.args.to.bytes.now c.args.at c.args.count c.loop-next.rows.items c.in-Some-next.key.bytes.now (key_in c.in_ok-next.next) now
            (subst (IsHeadOf c.in-Some-next.key.bytes.now (ops_in (messages_of c.args.node.now) c.in-Some-next.key.bytes.now) c.args.at) w.in_default-2.is head) c.in_ok-next.ensures.next)
      ];
      way = c.in_ok-next.ensures.at;
    }

pub returns : goal.returns
returns g c =
    walk_all (ops_in (messages_of c.args.node.now)) c.args.from.key.bytes.now c.args.from.after c.args.to.bytes.now c.args.at c.args.count c.loop-next.rows.items
    (subst (λ (next : Option TenantKey). IsWalkSoFar (ops_in (messages_of c.args.node.now)) c.args.from.key.bytes.now c.args.from.after c.args.to.bytes.now c.args.at c.args.count c.loop-next.rows.items (key_in next)) c.in_default-next.is c.loop-next.invariant.rows)
