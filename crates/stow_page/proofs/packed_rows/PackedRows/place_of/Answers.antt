use Rattle.std.proofs.Common.{◌≡◌, length, ap, ◌∙◌, arith}
use Rattle.stow_page.proofs.Joined.{block_of}
use Rattle.stow_page.proofs.Pushed.{length-places_from, places_in}
use Rattle.stow_page.proofs.Taken.{begins_at, ends_at}
use Rattle.stow_page.proofs.packed_rows.PackedRows.place_of.Goals as goal

pub returns-then-index-len-clause-place : goal.returns-then-index-len-clause-place
returns-then-index-len-clause-place g c =
    c.len-then-index-len.ensures ∙ c.self.inside.bytes.ok.0 ∙ ends_at c.self.inside.format _ _ c.args.self.now c.args.index (block_of _ _ _ _ c.self.invariant.block c.self.view_is) (c.if-index-len.true ∙ c.len.ensures ∙ c.self.inside.places.ok.0)

pub returns-else-index-len-clause-place : goal.returns-else-index-len-clause-place
returns-else-index-len-clause-place g c =
    let block = block_of _ _ _ _ c.self.invariant.block c.self.view_is in
    let count : length c.self.inside.places.items ≡ length c.args.self.now = ap length (places_in c.self.inside.format _ _ c.args.self.now block) ∙ length-places_from c.self.inside.format 5 c.args.self.now in
    let len = c.len.ensures ∙ c.self.inside.places.ok.0 in
    let other = c.if-index-len.false in
    let within = c.requires in
    c.index.ensures ∙ begins_at c.self.inside.format _ _ c.args.self.now c.args.index _ block (omega (arith, count, len, other, within))
