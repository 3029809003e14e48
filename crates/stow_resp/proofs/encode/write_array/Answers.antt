use Rattle.std.proofs.Common.{◌≡◌, ◌+◌, ◌∷◌, drop, ap, sym, ◌∙◌, arith}
use Rattle.std.proofs.lemmas.List.{drop_more}
use Rattle.std.specs.List.{flat_map}
use Rattle.stow_model.specs.Item.{item_of, item_encoding}
use Rattle.stow_resp.proofs.Lists.{keeps_more, piece_written}
use Rattle.stow_resp.proofs.encode.write_array.Goals as goal

pub returns-in_err-write_item-clause-keeps : goal.returns-in_err-write_item-clause-keeps
returns-in_err-write_item-clause-keeps g c = keeps_more _ c.loop-index.out.items _ (keeps_more _ c.write_line.new.out.items _ c.in_ok-write_line.ensures.keeps c.loop-index.invariant.keeps) c.in_err-write_item.ensures.keeps

pub loop-index-preserved : goal.loop-index-preserved
loop-index-preserved g c =
    let l = c.loop-index in
    let xs = c.args.items.now in
    let x = item_of c.get.result in
    let here : drop l.index xs ≡ x ∷ drop (l.index + 1) xs = drop_more xs l.index x (omega arith) ∙ ap (λ y. y ∷ drop (l.index + 1) xs) (sym c.get.ensures) in
    record {
      written = piece_written l.out.items c.write_item.new.out.items (item_encoding x) (flat_map item_encoding (drop l.index xs)) (flat_map item_encoding (drop (l.index + 1) xs)) _ c.in_ok-write_item.ensures.ok (ap (flat_map item_encoding) here) l.invariant.written;
      keeps = keeps_more _ l.out.items _ l.invariant.keeps c.in_ok-write_item.ensures.keeps;
    }

pub returns-clause-keeps : goal.returns-clause-keeps
returns-clause-keeps g c = keeps_more _ c.write_line.new.out.items _ c.in_ok-write_line.ensures.keeps c.loop-index.invariant.keeps
