use Rattle.std.proofs.Common.{◌<◌, List, map, Option, Some, None, false, sym, ap, ◌∙◌, subst, arith, Vec}
use Rattle.std.specs.Prelude.{IfSome}
use Rattle.std.specs.Option.{option_map}
use Rattle.std.proofs.lemmas.List.{length-map, map-append}
use Rattle.stow_node.proofs.StowLeaf.Intervals.{span_high}
use Rattle.stow_node.specs.Subtree.{messages_of}
use Rattle.stow_tree_model.specs.Messages.{ops_in}
use Rattle.stow_tree_model.specs.Operations.{value_in}
use Rattle.stow_tree_model.specs.declared.tenant_key.TenantKey.{TenantKey}
use Rattle.stow_read.specs.Found.{found_value}
use Rattle.stow_read.specs.NextKey.{IsNextKey}
use Rattle.stow_read.specs.Range.{KeyValue, key_value}
use Rattle.stow_read.specs.Way.{IsAt}
use Rattle.stow_read.specs.declared.row.Row.{Row}
use Rattle.stow_read.proofs.FirstKeys.{left_from, fewer_left, held_inside}
use Rattle.stow_read.proofs.Ranged.{IsRangeSoFar, range_first, range_past, range_more, range_all, range_enough}
use Rattle.stow_read.proofs.Ways.{ready_for, told_by_way}
use Rattle.stow_read.proofs.range.range.Goals as goal
use Rattle.stow_read.proofs.range.range.Goals.{in-Some-2+in_ok-push, in_default-2}

pub returns-in_default : goal.returns-in_default
returns-in_default g c =
    range_all (ops_in (messages_of c.args.node.now)) c.args.from.bytes.now c.args.to.bytes.now c.args.at c.args.count (map key_value c.new-rows.result.items)
    (subst (λ (items : List (Row g.row.A.Denot)). IsRangeSoFar (ops_in (messages_of c.args.node.now)) c.args.from.bytes.now c.args.to.bytes.now c.args.at c.args.count (map key_value items) None) (sym c.new-rows.ensures.items)
    (range_first (ops_in (messages_of c.args.node.now)) c.args.from.bytes.now c.args.to.bytes.now c.args.at c.args.count None
    (subst (λ (next : Option TenantKey). IsNextKey (ops_in (messages_of c.args.node.now)) c.args.from.bytes.now false c.args.to.bytes.now (option_map (λ (k : TenantKey). k.bytes.now) next)) c.in_default.is c.first_key.ensures)))

pub to-requires : goal.to-requires
to-requires g c =
    let low : IsNextKey (ops_in (messages_of c.args.node.now)) c.args.from.bytes.now false c.args.to.bytes.now (Some c.in-Some.first.bytes.now) =
    subst (λ (next : Option TenantKey). IsNextKey (ops_in (messages_of c.args.node.now)) c.args.from.bytes.now false c.args.to.bytes.now (option_map (λ (k : TenantKey). k.bytes.now) next)) c.in-Some.is c.first_key.ensures in
    held_inside c.args.node.now c.children-known.result.now c.in-Some.first.bytes.now c.children-known.ensures (record { number = low.number; there = low.there })

pub loop-next-init : goal.loop-next-init
loop-next-init g c = record {
  rows = subst (λ (items : List (Row g.row.A.Denot)). IsRangeSoFar (ops_in (messages_of c.args.node.now)) c.args.from.bytes.now c.args.to.bytes.now c.args.at c.args.count (map key_value items) (Some c.in-Some.first.bytes.now)) (sym c.new-rows.ensures.items)
      (range_first (ops_in (messages_of c.args.node.now)) c.args.from.bytes.now c.args.to.bytes.now c.args.at c.args.count (Some c.in-Some.first.bytes.now)
      (subst (λ (next : Option TenantKey). IsNextKey (ops_in (messages_of c.args.node.now)) c.args.from.bytes.now false c.args.to.bytes.now (option_map (λ (k : TenantKey). k.bytes.now) next)) c.in-Some.is c.first_key.ensures));
  way = c.in_ok-way.ensures;
}

pub returns-then-len-count : goal.returns-then-len-count
returns-then-len-count g c =
    range_enough (ops_in (messages_of c.args.node.now)) c.args.from.bytes.now c.args.to.bytes.now c.args.at c.args.count (map key_value c.loop-next.rows.items) c.in-Some-next.key.bytes.now
    (subst (λ (next : Option TenantKey). IsRangeSoFar (ops_in (messages_of c.args.node.now)) c.args.from.bytes.now c.args.to.bytes.now c.args.at c.args.count (map key_value c.loop-next.rows.items) (option_map (λ (k : TenantKey). k.bytes.now) next)) c.in-Some-next.is c.loop-next.invariant.rows)
    (let o = c.loop-next.rows.ok.0 in omega (arith, o, length-map c.loop-next.rows.items key_value, c.len.ensures, c.if-len-count.true))

pub value-requires : goal.value-requires
value-requires g c =
    let now : IsRangeSoFar (ops_in (messages_of c.args.node.now)) c.args.from.bytes.now c.args.to.bytes.now c.args.at c.args.count (map key_value c.loop-next.rows.items) (Some c.in-Some-next.key.bytes.now) =
    subst (λ (next : Option TenantKey). IsRangeSoFar (ops_in (messages_of c.args.node.now)) c.args.from.bytes.now c.args.to.bytes.now c.args.at c.args.count (map key_value c.loop-next.rows.items) (option_map (λ (k : TenantKey). k.bytes.now) next)) c.in-Some-next.is c.loop-next.invariant.rows in
    ready_for c.args.node.now c.loop-next.way c.in-Some-next.key.bytes.now c.args.to.bytes.now
    (subst (λ (next : Option TenantKey). IfSome next (λ k. IsAt c.args.node.now c.loop-next.way k.bytes.now c.args.to.bytes.now)) c.in-Some-next.is c.loop-next.invariant.way)
    (span_high c.args.from.bytes.now c.args.to.bytes.now c.in-Some-next.key.bytes.now now.keys.next_is.0)

pub step-requires-clause-inside : goal.step-requires-clause-inside
step-requires-clause-inside g c =
    held_inside c.args.node.now c.children-known.result.now c.in-Some-next.key.bytes.now c.children-known.ensures
    (let now : IsRangeSoFar (ops_in (messages_of c.args.node.now)) c.args.from.bytes.now c.args.to.bytes.now c.args.at c.args.count (map key_value c.loop-next.rows.items) (Some c.in-Some-next.key.bytes.now) =
    subst (λ (next : Option TenantKey). IsRangeSoFar (ops_in (messages_of c.args.node.now)) c.args.from.bytes.now c.args.to.bytes.now c.args.at c.args.count (map key_value c.loop-next.rows.items) (option_map (λ (k : TenantKey). k.bytes.now) next)) c.in-Some-next.is c.loop-next.invariant.rows in
    now.keys.held)

pub step-requires-clause-at : goal.step-requires-clause-at
step-requires-clause-at g c = subst (λ (next : Option TenantKey). IfSome next (λ k. IsAt c.args.node.now c.loop-next.way k.bytes.now c.args.to.bytes.now)) c.in-Some-next.is c.loop-next.invariant.way

pub loop-next-smaller : goal.loop-next-smaller
loop-next-smaller g c =
    let now : IsRangeSoFar (ops_in (messages_of c.args.node.now)) c.args.from.bytes.now c.args.to.bytes.now c.args.at c.args.count (map key_value c.loop-next.rows.items) (Some c.in-Some-next.key.bytes.now) =
    subst (λ (next : Option TenantKey). IsRangeSoFar (ops_in (messages_of c.args.node.now)) c.args.from.bytes.now c.args.to.bytes.now c.args.at c.args.count (map key_value c.loop-next.rows.items) (option_map (λ (k : TenantKey). k.bytes.now) next)) c.in-Some-next.is c.loop-next.invariant.rows in
    subst (λ (next : Option TenantKey). left_from (messages_of c.args.node.now) (option_map (λ (k : TenantKey). k.bytes.now) c.in_ok-next.next) < left_from (messages_of c.args.node.now) (option_map (λ (k : TenantKey). k.bytes.now) next)) (sym c.in-Some-next.is)
    (fewer_left (messages_of c.args.node.now) c.args.to.bytes.now c.in-Some-next.key.bytes.now (option_map (λ (k : TenantKey). k.bytes.now) c.in_ok-next.next) now.keys.held c.in_ok-next.ensures.next)

pub loop-next-preserved : goal.loop-next-preserved
loop-next-preserved g c =
    let now : IsRangeSoFar (ops_in (messages_of c.args.node.now)) c.args.from.bytes.now c.args.to.bytes.now c.args.at c.args.count (map key_value c.loop-next.rows.items) (Some c.in-Some-next.key.bytes.now) =
    subst (λ (next : Option TenantKey). IsRangeSoFar (ops_in (messages_of c.args.node.now)) c.args.from.bytes.now c.args.to.bytes.now c.args.at c.args.count (map key_value c.loop-next.rows.items) (option_map (λ (k : TenantKey). k.bytes.now) next)) c.in-Some-next.is c.loop-next.invariant.rows in
    let value =
    c.in_ok-value.ensures
    ∙ told_by_way c.args.node.now c.loop-next.way c.in-Some-next.key.bytes.now c.args.to.bytes.now c.args.at
    (subst (λ (next : Option TenantKey). IfSome next (λ k. IsAt c.args.node.now c.loop-next.way k.bytes.now c.args.to.bytes.now)) c.in-Some-next.is c.loop-next.invariant.way) in
    record {
      rows = elim (c.match-branch-3.branch) [
        | in-Some-2+in_ok-push w ↦ subst (λ rows. IsRangeSoFar (ops_in (messages_of c.args.node.now)) c.args.from.bytes.now c.args.to.bytes.now c.args.at c.args.count rows (option_map (λ (k : TenantKey). k.bytes.now) c.in_ok-next.next))
            (sym (ap (λ (rows : Vec (Row g.row.A.Denot) g.row.A.Denot). map key_value rows.items) w.rows-is
            ∙ ap (map key_value) w.in_ok-push.ensures.items
            ∙ map-append key_value c.loop-next.rows.items _))
            (range_more (ops_in (messages_of c.args.node.now)) c.args.from.bytes.now c.args.to.bytes.now c.args.at c.args.count (map key_value c.loop-next.rows.items) c.in-Some-next.key.bytes.now (found_value w.in-Some-2.value).value (option_map (λ (k : TenantKey). k.bytes.now) c.in_ok-next.next) now
            (ap value_in (sym value)
            ∙ ap (λ found. value_in (option_map found_value found)) w.in-Some-2.is)
            (let o = c.loop-next.rows.ok.0 in let few = now.keys.few in omega (arith, o, few, length-map c.loop-next.rows.items key_value, length-map (map key_value c.loop-next.rows.items) (λ (row : KeyValue). row.0), c.len.ensures, c.if-len-count.false))
            c.in_ok-next.ensures.next)
        | in_default-2 w ↦ subst (λ (rows : Vec (Row g.row.A.Denot) g.row.A.Denot). IsRangeSoFar (ops_in (messages_of c.args.node.now)) c.args.from.bytes.now c.args.to.bytes.now c.args.at c.args.count (map key_value rows.items) (option_map (λ (k : TenantKey). k.bytes.now) c.in_ok-next.next)) (sym w.rows-is)
            (range_past (ops_in (messages_of c.args.node.now)) c.args.from.bytes.now c.args.to.bytes.now c.args.at c.args.count (map key_value c.loop-next.rows.items) c.in-Some-next.key.bytes.now (option_map (λ (k : TenantKey). k.bytes.now) c.in_ok-next.next) now
            (sym value ∙ ap (option_map found_value) w.in_default-2.is) c.in_ok-next.ensures.next)
      ];
      way = c.in_ok-next.ensures.at;
    }

pub returns : goal.returns
returns g c =
    range_all (ops_in (messages_of c.args.node.now)) c.args.from.bytes.now c.args.to.bytes.now c.args.at c.args.count (map key_value c.loop-next.rows.items)
    (subst (λ (next : Option TenantKey). IsRangeSoFar (ops_in (messages_of c.args.node.now)) c.args.from.bytes.now c.args.to.bytes.now c.args.at c.args.count (map key_value c.loop-next.rows.items) (option_map (λ (k : TenantKey). k.bytes.now) next)) c.in_default-next.is c.loop-next.invariant.rows)
