-- What becomes of a filter's marks as messages come and go.
use Rattle.std.proofs.Common.{◌≡◌, ◌≢◌, ℕ, Bool, true, false, List, [], ◌∷◌, refl, ap, sym, subst, ◌∙◌, ⊎_elim}
use Rattle.std.specs.Prelude.{if◌then◌else◌}
use Rattle.std.specs.Ordering.{is_eq}
use Rattle.stow_tree_model.specs.StowBytes.Bytes.{bytes_cmp}
use Rattle.stow_slots.specs.StowRaw.RawBuf.{RawLists, raw_used}
use Rattle.stow_tree_model.specs.Merged.{same_key}
use Rattle.stow_tree_model.specs.TreeMessage.{TreeMessage}
use Rattle.stow_tree_model.proofs.Orders.{key_cases}
use Rattle.stow_filter.specs.Filter.{may_have}
use Rattle.stow_message.specs.Filter.{Covers, IsCovered}
use Rattle.stow_message.specs.MessageBuf.{MessageList, message_list, messages_in}
use Rattle.stow_message.specs.Rising.{of_key}
use Rattle.stow_message.proofs.Each.{each_still}

pub covers_more : (old new : List ℕ) (ms : List TreeMessage) → ((key : List ℕ) → may_have old key ≡ true → may_have new key ≡ true) → Covers old ms → Covers new ms
covers_more old new ms stay = each_still (IsCovered old) (IsCovered new) ms (λ m. stay m.key)

-- a key whose mark is missing has no messages
pub none_marked : (marks : List ℕ) (key : List ℕ) (ms : List TreeMessage) → may_have marks key ≡ false → Covers marks ms → of_key key ms ≡ []
none_marked marks key [] h c = refl
none_marked marks key (m ∷ ms) h c = step (is_eq (bytes_cmp m.key key)) refl (none_marked marks key ms h c.1) where
  step : (b : Bool) → is_eq (bytes_cmp m.key key) ≡ b → of_key key ms ≡ [] → (if b then m ∷ of_key key ms else of_key key ms) ≡ []
  step true e on = absurd (let z : true ≡ false = sym c.0 ∙ ap (may_have marks) (same m.key key e) ∙ h in cc) where
    same : (a b : List ℕ) → is_eq (bytes_cmp a b) ≡ true → a ≡ b
    same a b e = ⊎_elim (λ (h : (a ≡ b) × (same_key a b ≡ true)). h.0) (λ (h : (a ≢ b) × (same_key a b ≡ false)). absurd (let z : true ≡ false = sym e ∙ h.1 in cc)) (key_cases a b)
  step false e on = on

-- what a buffer's invariant says of its messages
pub covered : (raw : RawLists) (marks : List ℕ) (seen : MessageList) → message_list (messages_in raw) (raw_used raw) raw.capacity ≡ seen → Covers marks (messages_in raw) → Covers marks seen.messages
covered raw marks seen is c = subst (λ (w : MessageList). Covers marks w.messages) is c
