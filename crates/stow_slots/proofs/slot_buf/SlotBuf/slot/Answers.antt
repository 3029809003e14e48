use Rattle.std.proofs.Common.{◌≡◌, ◌∙◌, [], length, ap, sym, arith}
use Rattle.std.specs.Prelude.{slice_index}
use Rattle.stow_raw.specs.RawBuf.{RawLists}
use Rattle.stow_slots.proofs.Parts.{nothing, settled_all}
use Rattle.stow_slots.proofs.slot_buf.SlotBuf.slot.Goals as goal

pub slot-requires : goal.slot-requires
slot-requires g c = let young = c.self.inside.young.items in
    let none : young ≡ [] = nothing young (omega (arith, c.len.ensures, c.if-len-eq0.true)) in
    omega (arith, c.requires, ap (λ (r : RawLists). length r.slots) (sym (settled_all c.self.inside.raw young none) ∙ c.self.view_is))

pub returns-then-len-eq0 : goal.returns-then-len-eq0
returns-then-len-eq0 g c = let young = c.self.inside.young.items in
    let none : young ≡ [] = nothing young (omega (arith, c.len.ensures, c.if-len-eq0.true)) in
    c.slot.ensures ∙ ap (λ (r : RawLists). slice_index r.slots c.args.index) (sym (settled_all c.self.inside.raw young none) ∙ c.self.view_is)
