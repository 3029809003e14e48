use Rattle.std.proofs.Common.{◌<◌, length, get_or, refl, ap, sym, ◌∙◌, arith}
use Rattle.std.specs.Prelude.{not}
use Rattle.std.specs.Ordering.{is_eq}
use Rattle.std.proofs.lemmas.List.{get_or_default}
use Rattle.stow_tree_model.specs.TreeMessage.{TreeMessage, message_of}
use Rattle.stow_tree_model.specs.Order.{place_cmp, place_of}
use Rattle.stow_message.proofs.RisingLists.{below_within, new_from, was_false}
use Rattle.stow_message.proofs.message_buf.MessageBuf.is_new.Goals as goal

pub returns-then-index-len : goal.returns-then-index-len
returns-then-index-len g c =
    let m : TreeMessage = message_of c.args.message in let ms = c.args.self.now.messages in let up = c.search-index.ensures.rising in let i = c.search-index.result in let n = c.search-index.ensures.count in
    (λ _. new_from m ms up (λ lt d. absurd (omega (arith, lt, n, c.len.ensures.len, c.if-index-len.true))), λ _. refl)

pub message-requires : goal.message-requires
message-requires g c =
    let m : TreeMessage = message_of c.args.message in let ms = c.args.self.now.messages in let up = c.search-index.ensures.rising in let i = c.search-index.result in let n = c.search-index.ensures.count in
    omega (arith, n, below_within (place_of m) ms, c.len.ensures.len, c.if-index-len.false)

pub returns : goal.returns
returns g c =
    let m : TreeMessage = message_of c.args.message in let ms = c.args.self.now.messages in let up = c.search-index.ensures.rising in let i = c.search-index.result in let n = c.search-index.ensures.count in
    let held : TreeMessage = message_of c.message.result in let lt : i < length ms = omega (arith, n, below_within (place_of m) ms, c.len.ensures.len, c.if-index-len.false) in
    let same = λ (d : TreeMessage). c.is_message_at.ensures ∙ ap (λ x. is_eq (place_cmp (place_of x) (place_of m))) (c.message.ensures ∙ get_or_default ms i held d lt) in (
      λ t. new_from m ms up (λ less d. ap (λ j. is_eq (place_cmp (place_of (get_or ms j d)) (place_of m))) (sym n) ∙ sym (same d) ∙ was_false c.is_message_at.result t),
      λ new. ap not (same held ∙ new i held lt),
    )
