-- Laws of rising lists of messages.
use Rattle.std.specs.Prelude.{◌≡◌, ◌⊎◌, ◌↔◌, ◌+◌, ℕ, List}
use Rattle.std.specs.List.{Contains, sum_by}
use Rattle.stow_tree_model.specs.TreeMessage.{TreeMessage}
use Rattle.stow_tree_model.specs.Order.{MessagesRise}
use Rattle.stow_message.specs.Packed.{message_size}
use Rattle.stow_message.specs.Rising.{placed, IsNew, in_range, out_of_range, all_placed, AreNew, AreHeld, AreOldest, without}

-- a rising list with a new message rises
abbrev pub PlacedRises : Type 0
PlacedRises = (m : TreeMessage) (ms : List TreeMessage) → MessagesRise ms → IsNew m ms
    → MessagesRise (placed m ms)

-- a rising list with new messages that rise rises
abbrev pub AllPlacedRise : Type 0
AllPlacedRise = (ms ns : List TreeMessage) → MessagesRise ms → MessagesRise ns → AreNew ms ns
    → MessagesRise (all_placed ms ns)

-- a message is in the list with more messages exactly where it was there or is one of them
abbrev pub AllPlacedHold : Type 0
AllPlacedHold = (ms ns : List TreeMessage) (m : TreeMessage)
    → Contains (all_placed ms ns) m ↔ (Contains ms m ⊎ Contains ns m)

-- the messages of an interval, put to the others, are the list
abbrev pub RangeAndRest : Type 0
RangeAndRest = (from to : List ℕ) (ms : List TreeMessage) → MessagesRise ms
    → all_placed (in_range from to ms) (out_of_range from to ms) ≡ ms

-- where an interval of a list moves into another, a message is in one of the two exactly where it
-- was before
abbrev pub MoveKeepsAll : Type 0
MoveKeepsAll = (from to : List ℕ) (ms ns : List TreeMessage) (m : TreeMessage) → MessagesRise ms
    → (Contains (out_of_range from to ms) m
    ⊎ Contains (all_placed (in_range from to ms) ns) m) ↔ (Contains ms m ⊎ Contains ns m)

-- a batch that was taken out, put back, gives the list
abbrev pub TakenAndRest : Type 0
TakenAndRest = (batch ms : List TreeMessage) → MessagesRise batch → MessagesRise ms
    → AreHeld batch ms → all_placed batch (without batch ms) ≡ ms

-- what is left of a rising list rises
abbrev pub RestsRise : Type 0
RestsRise = (from to : List ℕ) (batch ms : List TreeMessage) → MessagesRise ms
    → MessagesRise (in_range from to ms) × MessagesRise (out_of_range from to ms)
    × MessagesRise (without batch ms)

-- sizes add up
abbrev pub SizesAddUp : Type 0
SizesAddUp = (ms ns : List TreeMessage)
    → sum_by message_size (all_placed ms ns) ≡ sum_by message_size ms + sum_by message_size ns

-- a batch whose messages are the oldest of their keys is held
abbrev pub OldestAreHeld : Type 0
OldestAreHeld = (batch held : List TreeMessage) → MessagesRise batch → AreOldest batch held
    → AreHeld batch held
