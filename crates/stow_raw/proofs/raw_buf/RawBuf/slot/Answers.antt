use Rattle.std.proofs.Common.{get_or, ap, sym, ◌∙◌, arith}
use Rattle.stow_raw.specs.RawBuf.{RawLists}
use Rattle.stow_raw.proofs.WordLists.{get_or-words}
use Rattle.stow_raw.proofs.Blocks.{front_size, slots_size, capacity_is}
use Rattle.stow_raw.proofs.raw_buf.RawBuf.slot.Goals as goal

pub word_at-requires : goal.word_at-requires
word_at-requires g c = let b = c.self.inside.block in let v = c.args.self.now in let h = c.self.invariant in let f = front_size b v h c.self.view_is in let s = slots_size b v h c.self.view_is in let n = capacity_is b v h c.self.view_is in
    omega (arith, c.slot_row.ensures.0, c.requires)

pub returns : goal.returns
returns g c = let b = c.self.inside.block in let v = c.args.self.now in let h = c.self.invariant in let f = front_size b v h c.self.view_is in let s = slots_size b v h c.self.view_is in let n = capacity_is b v h c.self.view_is in
    let i = c.args.index in let row = c.slot_row.result.now in
    c.word_at.ensures ∙ sym (get_or-words b.slots i row 0 (omega (arith, c.requires))) ∙ ap (λ l. get_or l i 0) (c.slot_row.ensures.1 ∙ ap (λ (w : RawLists). w.slots) c.self.view_is)
