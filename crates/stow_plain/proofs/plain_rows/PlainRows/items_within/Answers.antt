use Rattle.std.proofs.lemmas.Grind.{common_steps}
use Rattle.std.proofs.Common.{◌≡◌, ◌++◌, [], ◌∷◌, ap, sym, ◌∙◌, arith}
use Rattle.std.specs.Prelude.{filter, take}
use Rattle.std.specs.List.{flat_map}
use Rattle.std.specs.FinMap as map
use Rattle.stow_model.specs.Item.{Bulk}
use Rattle.stow_model.specs.Store.{is_within, row_items}
use Rattle.stow_plain.specs.PlainMap.{entries_of, version_of}
use Rattle.stow_plain.proofs.Mapped.{entries-rows}
use Rattle.stow_plain.proofs.Within.{one_row-within}
use Rattle.stow_plain.proofs.plain_rows.PlainRows.items_within.Goals as goal

pub loop-key-init : goal.loop-key-init
loop-key-init g c =
    let es = c.self.inside.rows.entries in
    ap (λ xs. xs ++ flat_map row_items (take c.args.count (filter (λ row. is_within c.args.from.now c.args.to.now row.0) (entries_of (λ k. k.items) c.into_iter-key-iterator.result)))) c.new-items.ensures
    ∙ ap (λ rows. flat_map row_items (take c.args.count (filter (λ row. is_within c.args.from.now c.args.to.now row.0) rows)))
    (ap (entries_of (λ k. k.items)) (c.into_iter-key-iterator.ensures.into_iter_gives ∙ c.iter-key-items.ensures.rest)
    ∙ sym (entries-rows (λ k. k.items) es c.iter-key-items.ensures.ordered) ∙ ap map.entries c.self.view_is)

pub loop-key-preserved-then-is_within : goal.loop-key-preserved-then-is_within
loop-key-preserved-then-is_within g c =
    let key : c.as_slice.result.now ≡ c.in-Some.key.now.items = c.as_slice.ensures.value in
    let first : c.push_bulk.new.self ≡ c.loop-key.items ++ Bulk c.in-Some.key.now.items ∷ [] =
    c.in_ok-push_bulk.ensures.ok ∙ ap (λ b. c.loop-key.items ++ Bulk b ∷ []) c.as_slice-then-is_within.ensures.value in
    let second : c.push_bulk-then-is_within.new.self ≡ c.push_bulk.new.self ++ Bulk c.in-Some.version.now.value ∷ [] =
    c.in_ok-push_bulk-2.ensures.ok ∙ ap (λ b. c.push_bulk.new.self ++ Bulk b ∷ []) c.as_slice-then-is_within-2.ensures in
    one_row-within c.args.from.now c.args.to.now c.in-Some.key.now.items (version_of c.in-Some.version.now) (entries_of (λ k. k.items) c.next.new.self)
    (c.loop-key.items) c.push_bulk-then-is_within.new.self _ c.loop-key.left
    (ap (is_within c.args.from.now c.args.to.now) (sym key) ∙ sym c.if-is_within.ensures) c.if-left-eq0.false
    (second ∙ ap (λ t. t ++ Bulk c.in-Some.version.now.value ∷ []) first)
    (sym (ap (λ rest. c.loop-key.items ++ flat_map row_items (take c.loop-key.left (filter (λ row. is_within c.args.from.now c.args.to.now row.0) (entries_of (λ k. k.items) rest)))) c.in-Some.ensures.steps) ∙ c.loop-key.invariant)

pub returns : goal.returns
returns g c = grind (arith, common_steps)
