use Rattle.std.proofs.Common.{sym, subst, arith, length-append}
use Rattle.stow_raw.specs.RawBuf.{RawLists}
use Rattle.stow_slots.specs.Young.{IsYoung}
use Rattle.stow_slots.proofs.Parts.{used, capacity}
use Rattle.stow_slots.proofs.slot_buf.SlotBuf.push_front.Goals as goal

pub push_front-requires : goal.push_front-requires
push_front-requires g c = omega (arith, c.requires, used c.self.inside.raw c.self.inside.young.items c.self.invariant c.args.self.now c.self.view_is, capacity c.self.inside.raw c.self.inside.young.items c.self.invariant c.args.self.now c.self.view_is)

pub invariant_of-self : goal.invariant_of-self
invariant_of-self g c =
    let raw = c.self.inside.raw in let young = c.self.inside.young.items in
    subst (λ (r : RawLists). IsYoung r young) (sym c.push_front.ensures)
    (record {
      rising = c.self.invariant.rising;
      among = c.self.invariant.among;
      room = omega (arith, c.requires, used c.self.inside.raw c.self.inside.young.items c.self.invariant c.args.self.now c.self.view_is, capacity c.self.inside.raw c.self.inside.young.items c.self.invariant c.args.self.now c.self.view_is, length-append raw.front c.args.bytes.now);
    })
