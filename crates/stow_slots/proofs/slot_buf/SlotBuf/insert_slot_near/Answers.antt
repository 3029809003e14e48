use Rattle.std.proofs.Common.{◌≤◌, length, ap, sym, subst, ◌∙◌, arith}
use Rattle.std.specs.List.{insert}
use Rattle.std.proofs.lemmas.List.Edits.{length-insert}
use Rattle.stow_raw.specs.RawBuf.{RawLists, raw_lists, raw_used}
use Rattle.stow_slots.specs.Young.{IsYoung, all_lists}
use Rattle.stow_slots.proofs.Parts.{put_in, put_so, settled, settled_all}
use Rattle.stow_slots.proofs.slot_buf.SlotBuf.insert_slot_near.Goals as goal

pub invariant_of-self : goal.invariant_of-self
invariant_of-self g c = let put = c.put_young.ensures.put c.if-put_young.true in
    subst (IsYoung c.self.inside.raw) (sym put.are) (put_so c.self.inside.raw c.self.inside.young.items c.self.invariant c.args.self.now c.self.view_is c.args.index put.rank c.args.slot put.is_rank c.requires.0 c.requires.1)

pub returns-then-put_young : goal.returns-then-put_young
returns-then-put_young g c = let put = c.put_young.ensures.put c.if-put_young.true in
    ap (all_lists c.self.inside.raw) put.are ∙ put_in c.self.inside.raw c.self.inside.young.items c.self.invariant c.args.self.now c.self.view_is c.args.index put.rank c.args.slot put.is_rank c.requires.0

pub settle-requires : goal.settle-requires
settle-requires g c = subst (IsYoung c.self.inside.raw) (sym (c.put_young.ensures.none c.if-put_young.false)) c.self.invariant

pub insert_slot-requires : goal.insert_slot-requires
insert_slot-requires g c = let same = c.settle.ensures.all ∙ ap (all_lists c.self.inside.raw) (c.put_young.ensures.none c.if-put_young.false) ∙ c.self.view_is in (omega (arith, c.requires.0, ap (λ (r : RawLists). length r.slots) same), omega (arith, c.requires.1, ap raw_used same, ap (λ (r : RawLists). r.capacity) same))

pub invariant_of-self-2 : goal.invariant_of-self-2
invariant_of-self-2 g c = let same = c.settle.ensures.all ∙ ap (all_lists c.self.inside.raw) (c.put_young.ensures.none c.if-put_young.false) ∙ c.self.view_is in let xs = c.settle.new.raw.slots in
    let within : c.args.index ≤ length xs = omega (arith, c.requires.0, ap (λ (r : RawLists). length r.slots) same) in
    settled c.insert_slot.new.self _ c.settle.ensures.none
    (omega (arith, ap raw_used c.insert_slot.ensures, ap (λ (r : RawLists). r.capacity) c.insert_slot.ensures, length-insert xs c.args.index c.args.slot within, ap raw_used same, ap (λ (r : RawLists). r.capacity) same, c.requires.1))

pub returns : goal.returns
returns g c = let same = c.settle.ensures.all ∙ ap (all_lists c.self.inside.raw) (c.put_young.ensures.none c.if-put_young.false) ∙ c.self.view_is in
    settled_all c.insert_slot.new.self _ c.settle.ensures.none ∙ c.insert_slot.ensures
    ∙ ap (λ (r : RawLists). raw_lists r.front (insert r.slots c.args.index c.args.slot) r.capacity) same
