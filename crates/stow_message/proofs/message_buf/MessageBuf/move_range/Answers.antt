use Rattle.std.proofs.Common.{◌≡◌, ◌+◌, ◌-◌, ◌*◌, ◌≤◌, List, length, take, drop, ap, sym, subst, ◌∙◌, arith}
use Rattle.std.specs.List.{sum_by, remove_range}
use Rattle.stow_tree_model.specs.TreeMessage.{TreeMessage}
use Rattle.stow_tree_model.specs.Order.{MessagesRise}
use Rattle.stow_message.specs.Packed.{message_size}
use Rattle.stow_message.specs.MessageBuf.{MessageList, message_list, with_messages}
use Rattle.stow_message.specs.Rising.{all_placed, AreNew, in_range, is_between}
use Rattle.stow_message.proofs.RisingLists.{below_within}
use Rattle.stow_message.proofs.Ranges.{range_is, rest_is, filter_rises, range_ends, range_length}
use Rattle.stow_message.proofs.message_buf.MessageBuf.move_range.Goals as goal

pub search_from-high-requires : goal.search_from-high-requires
search_from-high-requires g c = omega (arith, c.search-low.ensures.count, below_within (c.args.from.bytes.now, 0) c.args.self.now.messages)

pub invariant_of-push_all : goal.invariant_of-push_all
invariant_of-push_all g c =
    let ms = c.args.self.now.messages in let f = c.search_from-high.ensures in
    let ends = range_ends c.args.from.bytes.now c.args.to.bytes.now ms c.search-low.result c.search_from-high.result c.search-low.ensures.count f c.search-low.ensures.rising in
    (ends.0, ends.1, omega (arith, ends.1, c.search-low.ensures.small))

pub push_all-requires-clause-room : goal.push_all-requires-clause-room
push_all-requires-clause-room g c =
    let ms = c.args.self.now.messages in let f = c.search_from-high.ensures in
    let is = range_is c.args.from.bytes.now c.args.to.bytes.now ms c.search-low.result c.search_from-high.result c.search-low.ensures.count f c.search-low.ensures.rising in
    subst (λ (into : MessageList). into.used + sum_by message_size (take (c.search_from-high.result - c.search-low.result) (drop c.search-low.result ms)) ≤ into.capacity) (sym c.widen_by.ensures)
    (subst (λ (run : List TreeMessage). c.args.into.now.used + sum_by message_size run ≤ c.args.into.now.capacity) (sym is) c.requires.room)

pub push_all-requires-clause-rising : goal.push_all-requires-clause-rising
push_all-requires-clause-rising g c =
    let ms = c.args.self.now.messages in let f = c.search_from-high.ensures in
    let is = range_is c.args.from.bytes.now c.args.to.bytes.now ms c.search-low.result c.search_from-high.result c.search-low.ensures.count f c.search-low.ensures.rising in
    subst MessagesRise (sym is) (filter_rises (is_between c.args.from.bytes.now c.args.to.bytes.now) ms c.search-low.ensures.rising)

pub push_all-requires-clause-new : goal.push_all-requires-clause-new
push_all-requires-clause-new g c =
    let ms = c.args.self.now.messages in let f = c.search_from-high.ensures in
    let is = range_is c.args.from.bytes.now c.args.to.bytes.now ms c.search-low.result c.search_from-high.result c.search-low.ensures.count f c.search-low.ensures.rising in
    subst (λ (into : MessageList). AreNew (take (c.search_from-high.result - c.search-low.result) (drop c.search-low.result ms)) into.messages) (sym c.widen_by.ensures)
    (subst (λ (run : List TreeMessage). AreNew run c.args.into.now.messages) (sym is) c.requires.new)

pub remove-requires : goal.remove-requires
remove-requires g c =
    let ms = c.args.self.now.messages in let f = c.search_from-high.ensures in
    omega (arith, range_ends c.args.from.bytes.now c.args.to.bytes.now ms c.search-low.result c.search_from-high.result c.search-low.ensures.count f c.search-low.ensures.rising)

pub returns-clause-rest : goal.returns-clause-rest
returns-clause-rest g c =
    let ms = c.args.self.now.messages in let from = c.args.from.bytes.now in let to = c.args.to.bytes.now in let lo = c.search-low.result in let hi = c.search_from-high.result in
    let e = c.search-low.ensures.count in let f = c.search_from-high.ensures in let up = c.search-low.ensures.rising in
    let ends = range_ends from to ms lo hi e f up in let count = range_length from to ms lo hi e f up in let to_end : lo + (hi - lo) ≡ hi = omega (arith, ends) in
    c.remove.ensures ∙ (λ j. message_list (remove_range ms lo (to_end j)) (c.args.self.now.used - 4 * sym count j) c.args.self.now.capacity)
    ∙ ap (λ l. message_list l (c.args.self.now.used - 4 * length (in_range from to ms)) c.args.self.now.capacity) (rest_is from to ms lo hi e f up)

pub returns-clause-moved : goal.returns-clause-moved
returns-clause-moved g c =
    let ms = c.args.self.now.messages in let f = c.search_from-high.ensures in
    let is = range_is c.args.from.bytes.now c.args.to.bytes.now ms c.search-low.result c.search_from-high.result c.search-low.ensures.count f c.search-low.ensures.rising in
    c.push_all.ensures ∙ ap (with_messages (take (c.search_from-high.result - c.search-low.result) (drop c.search-low.result ms))) c.widen_by.ensures
    ∙ ap (λ run. message_list (all_placed run c.args.into.now.messages) (c.args.into.now.used + sum_by message_size run) c.args.into.now.capacity) is
