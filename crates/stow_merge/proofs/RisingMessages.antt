-- Parts of messages that rise.
use Rattle.std.proofs.Common.{ℕ, List, ◌++◌, take, drop, sym, subst}
use Rattle.std.proofs.lemmas.List.{take-append-drop}
use Rattle.stow_page.specs.StowTreeModel.Order.{place_of, MessagesRise}
use Rattle.stow_page.specs.StowTreeModel.TreeMessage.{TreeMessage}
use Rattle.stow_merge.proofs.KeyLemmas.{rise_after, rise_front}

pub messages_front : (ms more : List TreeMessage) → MessagesRise (ms ++ more) → MessagesRise ms
messages_front = rise_front place_of

pub messages_after : (ms more : List TreeMessage) → MessagesRise (ms ++ more) → MessagesRise more
messages_after = rise_after place_of

pub messages_take : (n : ℕ) (ms : List TreeMessage) → MessagesRise ms → MessagesRise (take n ms)
messages_take n ms h = messages_front (take n ms) (drop n ms) (subst MessagesRise (sym (take-append-drop n ms)) h)

pub messages_drop : (n : ℕ) (ms : List TreeMessage) → MessagesRise ms → MessagesRise (drop n ms)
messages_drop n ms h = messages_after (take n ms) (drop n ms) (subst MessagesRise (sym (take-append-drop n ms)) h)
