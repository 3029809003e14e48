use Rattle.std.proofs.Common.{◌≡◌, ℕ, ◌+◌, List, Option, Some, None, refl, sym, subst}
use Rattle.std.specs.Prelude.{slice_get, IfSome}
use Rattle.std.specs.List.{remove_range}
use Rattle.stow_raw.specs.RawBuf.{RawLists, raw_lists}
use Rattle.stow_slots.specs.Young.{HasOneMore, IsYoung, all_lists}
use Rattle.stow_slots.specs.declared.young_slot.YoungSlot.{YoungSlot}
use Rattle.stow_slots.proofs.Taken.{left_young, left_all, was_there}
use Rattle.stow_slots.proofs.slot_buf.SlotBuf.remove_young.Goals as goal

module _ (raw : RawLists) (young left : List YoungSlot) (h : IsYoung raw young) (v : RawLists) (is : all_lists raw young ≡ v) (index : ℕ) where
  still_young : (found : Option ℕ) → IfSome found (λ slot. HasOneMore left index slot young) → (found ≡ None → left ≡ young) → IsYoung raw left
  still_young None some none = subst (IsYoung raw) (sym (none refl)) h
  still_young (Some slot) some none = left_young raw young left h v is index slot some

  taken : (found : Option ℕ) → IfSome found (λ slot. HasOneMore left index slot young) → IfSome found (λ slot. slice_get v.slots index ≡ Some slot × all_lists raw left ≡ raw_lists v.front (remove_range v.slots index (index + 1)) v.capacity)
  taken None some = tt
  taken (Some slot) some = (was_there raw young left h v is index slot some, left_all raw young left h v is index slot some)

pub invariant_of-self : goal.invariant_of-self
invariant_of-self g c = still_young c.self.inside.raw c.self.inside.young.items c.take_young.new.young.items c.self.invariant c.args.self.now c.self.view_is c.args.index c.take_young.result c.take_young.ensures.taken c.take_young.ensures.none

pub returns-clause-taken : goal.returns-clause-taken
returns-clause-taken g c = taken c.self.inside.raw c.self.inside.young.items c.take_young.new.young.items c.self.invariant c.args.self.now c.self.view_is c.args.index c.take_young.result c.take_young.ensures.taken
