-- The bytes of each of a buffer's messages, which are bounded.
use Rattle.std.proofs.Common.{◌≡◌, ℕ, ◌*◌, ◌≤◌, List, [], ◌∷◌, length, subst, arith}
use Rattle.std.specs.List.{sum_by}
use Rattle.std.proofs.lemmas.List.Sums.{sum_by-cons}
use Rattle.stow_slots.specs.StowRaw.RawBuf.{RawLists, raw_used}
use Rattle.stow_tree_model.specs.TreeMessage.{TreeMessage}
use Rattle.stow_message.specs.Packed.{message_size, IsNoLarger}
use Rattle.stow_message.specs.MessageBuf.{MessageList, message_list, messages_in, AreNoLarger}
use Rattle.stow_message.proofs.Each.{each_still}

-- a larger bound is one too
pub still_no_larger : (most more : ℕ) (ms : List TreeMessage) → most ≤ more → AreNoLarger most ms → AreNoLarger more ms
still_no_larger most more ms le = each_still (IsNoLarger most) (IsNoLarger more) ms (λ m h. omega (arith, h, le))

-- so many messages take no more than as many times the bound
pub sizes_bounded : (most : ℕ) (ms : List TreeMessage) → AreNoLarger most ms → sum_by message_size ms ≤ length ms * most
sizes_bounded most [] h = omega arith
sizes_bounded most (m ∷ ms) h = omega (arith, h.0, sizes_bounded most ms h.1, sum_by-cons message_size m ms)

-- what a buffer's invariant says of its messages
pub are_no_larger : (raw : RawLists) (most : ℕ) (v : MessageList) → message_list (messages_in raw) (raw_used raw) raw.capacity ≡ v → AreNoLarger most (messages_in raw) → AreNoLarger most v.messages
are_no_larger raw most v is = subst (λ (w : MessageList). AreNoLarger most w.messages) is
