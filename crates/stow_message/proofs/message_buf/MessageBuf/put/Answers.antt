use Rattle.std.proofs.Common.{ap, sym, subst, ◌∙◌, arith}
use Rattle.std.specs.List.{sum_by}
use Rattle.stow_tree_model.specs.TreeMessage.{message_of}
use Rattle.stow_message.specs.Filter.{Covers, IsCovered}
use Rattle.stow_message.specs.MessageBuf.{MessageList, AreNoLarger}
use Rattle.stow_message.specs.Packed.{message_size, IsNoLarger}
use Rattle.stow_message.proofs.RisingLists.{sum-placed}
use Rattle.stow_message.proofs.Counted.{is_counted}
use Rattle.stow_message.proofs.Covered.{covered, covers_more}
use Rattle.stow_message.proofs.Bounded.{still_no_larger, are_no_larger}
use Rattle.stow_message.proofs.Each.{each_placed}
use Rattle.stow_message.proofs.Pushed.{bytes_fit, push}
use Rattle.stow_message.proofs.message_buf.MessageBuf.put.Goals as goal

pub append-requires : goal.append-requires
append-requires g c = bytes_fit c.self.inside.raw c.self.invariant.filled c.args.self.now c.self.view_is c.args.message c.requires

pub insert_slot_near-requires : goal.insert_slot_near-requires
insert_slot_near-requires g c = (push c.self.inside.raw c.self.invariant.filled c.args.self.now c.self.view_is c.args.message c.requires c.append.new.raw c.append.ensures _ (c.place-place.ensures ∙ c.below.ensures.count)).room

pub invariant_of-self : goal.invariant_of-self
invariant_of-self g c =
    let put = push c.self.inside.raw c.self.invariant.filled c.args.self.now c.self.view_is c.args.message c.requires c.append.new.raw c.append.ensures _ (c.place-place.ensures ∙ c.below.ensures.count) in
    let marks = c.add.new.self in
    record {
      filled = put.filled _ _ c.front_len-at.ensures c.insert_slot_near.ensures;
      covers = subst (Covers marks) (sym (ap (λ (w : MessageList). w.messages) (put.is _ _ c.front_len-at.ensures c.insert_slot_near.ensures)))
          (each_placed (IsCovered marks) (message_of c.args.message) c.args.self.now.messages c.add.ensures.added
          (covers_more c.self.inside.filter marks c.args.self.now.messages c.add.ensures.stay
          (covered c.self.inside.raw c.self.inside.filter c.args.self.now c.self.view_is c.self.invariant.covers)));
      counted = omega (arith, c.size.ensures, is_counted c.self.inside.raw c.self.inside.live c.args.self.now c.self.view_is c.self.invariant.counted, sum-placed (message_of c.args.message) c.args.self.now.messages, ap (λ (w : MessageList). sum_by message_size w.messages) (put.is _ _ c.front_len-at.ensures c.insert_slot_near.ensures));
      bounded = let most = c.max-self-inside.result in subst (AreNoLarger most) (sym (ap (λ (w : MessageList). w.messages) (put.is _ _ c.front_len-at.ensures c.insert_slot_near.ensures)))
          (each_placed (IsNoLarger most) (message_of c.args.message) c.args.self.now.messages (omega (arith, c.size.ensures, c.size-2.ensures, c.max-self-inside.ensures))
          (still_no_larger c.self.inside.largest most c.args.self.now.messages (omega (arith, c.max-self-inside.ensures))
          (are_no_larger c.self.inside.raw c.self.inside.largest c.args.self.now c.self.view_is c.self.invariant.bounded)));
    }

pub overflow_add-self : goal.overflow_add-self
overflow_add-self g c =
    record { fits = omega (arith, c.size.ensures, c.self.invariant.counted, c.self.invariant.filled.live, c.self.invariant.filled.within, ap (λ (w : MessageList). w.used) c.self.view_is, ap (λ (w : MessageList). w.capacity) c.self.view_is, c.requires.0) }

pub returns : goal.returns
returns g c = (push c.self.inside.raw c.self.invariant.filled c.args.self.now c.self.view_is c.args.message c.requires c.append.new.raw c.append.ensures _ (c.place-place.ensures ∙ c.below.ensures.count)).is _ _ c.front_len-at.ensures c.insert_slot_near.ensures
