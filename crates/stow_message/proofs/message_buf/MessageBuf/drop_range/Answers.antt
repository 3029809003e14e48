use Rattle.std.proofs.Common.{◌≡◌, ◌+◌, ◌-◌, ◌*◌, length, ap, sym, ◌∙◌, arith}
use Rattle.std.specs.List.{remove_range}
use Rattle.stow_message.specs.MessageBuf.{message_list}
use Rattle.stow_message.specs.Rising.{in_range}
use Rattle.stow_message.proofs.RisingLists.{below_within}
use Rattle.stow_message.proofs.Ranges.{rest_is, range_ends, range_length}
use Rattle.stow_message.proofs.message_buf.MessageBuf.drop_range.Goals as goal

pub search_from-end-requires : goal.search_from-end-requires
search_from-end-requires g c = omega (arith, c.search-low.ensures.count, below_within (c.args.from.bytes.now, 0) c.args.self.now.messages)

pub remove-requires : goal.remove-requires
remove-requires g c =
    let ms = c.args.self.now.messages in let f = c.search_from-end.ensures in
    omega (arith, range_ends c.args.from.bytes.now c.args.to.bytes.now ms c.search-low.result c.search_from-end.result c.search-low.ensures.count f c.search-low.ensures.rising)

pub returns : goal.returns
returns g c =
    let ms = c.args.self.now.messages in let from = c.args.from.bytes.now in let to = c.args.to.bytes.now in let lo = c.search-low.result in let hi = c.search_from-end.result in
    let e = c.search-low.ensures.count in let f = c.search_from-end.ensures in let up = c.search-low.ensures.rising in
    let ends = range_ends from to ms lo hi e f up in let count = range_length from to ms lo hi e f up in let to_end : lo + (hi - lo) ≡ hi = omega (arith, ends) in
    c.remove.ensures ∙ (λ j. message_list (remove_range ms lo (to_end j)) (c.args.self.now.used - 4 * sym count j) c.args.self.now.capacity)
    ∙ ap (λ l. message_list l (c.args.self.now.used - 4 * length (in_range from to ms)) c.args.self.now.capacity) (rest_is from to ms lo hi e f up)
