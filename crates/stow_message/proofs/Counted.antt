-- The bytes of a buffer's messages, which are counted.
use Rattle.std.proofs.Common.{◌≡◌, ℕ, ◌+◌, ◌-◌, ◌≤◌, ◌∙◌, List, [], ◌∷◌, Bool, true, false, length, take, drop, refl, sym, ap, arith, drop-drop, take_all}
use Rattle.std.proofs.lemmas.List.{length-drop}
use Rattle.std.specs.Prelude.{if◌then◌else◌}
use Rattle.std.specs.List.{sum_by, remove_range}
use Rattle.std.proofs.lemmas.List.Sums.{sum_by-cons, sum_by-append, sum_by-take-drop}
use Rattle.stow_slots.specs.StowRaw.RawBuf.{RawLists, raw_used}
use Rattle.stow_tree_model.specs.TreeMessage.{TreeMessage}
use Rattle.stow_message.specs.Packed.{message_size}
use Rattle.stow_message.specs.MessageBuf.{MessageList, message_list, messages_in}
use Rattle.stow_message.specs.Rising.{is_same}
use Rattle.stow_message.proofs.Placed.{itself}
use Rattle.stow_message.proofs.Taken.{kept, unfound, same_is}

-- the count, of a buffer as it is seen
pub is_counted : (raw : RawLists) (live : ℕ) (v : MessageList) → message_list (messages_in raw) (raw_used raw) raw.capacity ≡ v → live ≡ sum_by message_size (messages_in raw) → live ≡ sum_by message_size v.messages
is_counted raw live v is counted = counted ∙ ap (λ (w : MessageList). sum_by message_size w.messages) is

-- what is left of messages of which a range goes
pub rest_counted : (ms : List TreeMessage) (i k : ℕ) → sum_by message_size (remove_range ms i (i + k)) + sum_by message_size (take k (drop i ms)) ≡ sum_by message_size ms
rest_counted ms i k = omega (
  arith,
  sum_by-append message_size (take i ms) (drop (i + k) ms),
  sum_by-take-drop message_size ms i,
  sum_by-take-drop message_size (drop i ms) k,
  ap (sum_by message_size) (drop-drop k i ms),
)

-- a run of messages, and the others on both sides of it
pub others_counted : (ms : List TreeMessage) (from to n : ℕ) → from ≤ to → to ≤ n → n ≡ length ms
    → sum_by message_size (take from ms) + (sum_by message_size (take (to - from) (drop from ms)) + sum_by message_size (take (n - to) (drop to ms))) ≡ sum_by message_size ms
others_counted ms from to n order within is =
    let end : from + (to - from) ≡ to = omega (arith, order) in
    let rest : length (drop to ms) ≤ n - to = omega (arith, is, length-drop to ms) in
    omega (
      arith,
      sum_by-take-drop message_size ms from,
      sum_by-take-drop message_size (drop from ms) (to - from),
      ap (sum_by message_size) (drop-drop (to - from) from ms),
      ap (λ k. sum_by message_size (drop k ms)) end,
      ap (sum_by message_size) (take_all (n - to) (drop to ms) rest),
    )

-- what a walk keeps of messages of which a batch goes
pub kept_counted : (bs ms : List TreeMessage) → sum_by message_size (kept itself bs ms) + sum_by message_size bs ≡ sum_by message_size ms + sum_by message_size (unfound bs ms)
kept_counted bs [] = omega arith
kept_counted [] (m ∷ ms) = omega (arith, kept_counted [] ms, sum_by-cons message_size m ms, sum_by-cons message_size m (kept itself [] ms))
kept_counted (b ∷ bs) (m ∷ ms) = step (is_same b m) refl (kept_counted bs ms) (kept_counted (b ∷ bs) ms) where
  step : (t : Bool) → t ≡ is_same b m → sum_by message_size (kept itself bs ms) + sum_by message_size bs ≡ sum_by message_size ms + sum_by message_size (unfound bs ms)
      → sum_by message_size (kept itself (b ∷ bs) ms) + sum_by message_size (b ∷ bs) ≡ sum_by message_size ms + sum_by message_size (unfound (b ∷ bs) ms)
      → sum_by message_size (if t then kept itself bs ms else m ∷ kept itself (b ∷ bs) ms) + sum_by message_size (b ∷ bs) ≡ sum_by message_size (m ∷ ms) + sum_by message_size (unfound (if t then bs else b ∷ bs) ms)
  step true q one other = omega (arith, one, sum_by-cons message_size b bs, sum_by-cons message_size m ms, ap message_size (same_is b m (sym q)))
  step false q one other = omega (arith, other, sum_by-cons message_size m ms, sum_by-cons message_size m (kept itself (b ∷ bs) ms))

-- the bytes of the range that goes, of a buffer as it is seen
pub gone_counted : (raw : RawLists) (v : MessageList) → message_list (messages_in raw) (raw_used raw) raw.capacity ≡ v → (i k n : ℕ) → n ≡ sum_by message_size (take (i + k - i) (drop i v.messages)) → n ≡ sum_by message_size (take k (drop i (messages_in raw)))
gone_counted raw v is i k n counted = let all : i + k - i ≡ k = omega arith in
    counted ∙ (λ j. sum_by message_size (take (all j) (drop i v.messages))) ∙ ap (λ (w : MessageList). sum_by message_size (take k (drop i w.messages))) (sym is)
