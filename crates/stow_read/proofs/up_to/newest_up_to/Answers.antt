use Rattle.std.proofs.Common.{◌≡◌, ◌-◌, ◌<◌, get_or, ap, sym, ◌∙◌, arith}
use Rattle.std.proofs.lemmas.Bool.Decides.{nat_tests}
use Rattle.stow_tree_model.specs.TreeMessage.{message_of}
use Rattle.stow_read.proofs.NextNumbers.{is_own}
use Rattle.stow_read.proofs.UpTo.{top_within, top_there, top_none, top_other}
use Rattle.stow_read.proofs.up_to.newest_up_to.Goals as goal

pub returns-then-is_same : goal.returns-then-is_same
returns-then-is_same g c =
    let ms = c.args.buffer.now.messages in
    let key = c.args.key.bytes.now in
    let m = message_of c.from_last-message.result in
    let count = c.front_up_to-front.result.count in
    let last : count - 1 - 0 ≡ count - 1 = omega arith in
    let there = c.from_last-message.ensures ∙ ap (λ i. get_or ms i m) last in
    let some : 0 < count = (let n = c.if-front-eq0.false in grind (arith, nat_tests, n)) in
    let own = is_own key m.key (sym c.is_same.ensures ∙ c.if-is_same.true) in
    record {
      within = top_within ms key c.args.at count c.front_up_to-front.ensures.count m some there c.len-known.ensures.rising own;
      there = top_there ms key c.args.at count c.front_up_to-front.ensures.count m some there c.len-known.ensures.rising own;
      none = top_none ms key c.args.at count c.front_up_to-front.ensures.count m some there c.len-known.ensures.rising own;
    }

pub returns-else-is_same : goal.returns-else-is_same
returns-else-is_same g c =
    let ms = c.args.buffer.now.messages in
    let key = c.args.key.bytes.now in
    let m = message_of c.from_last-message.result in
    let count = c.front_up_to-front.result.count in
    let last : count - 1 - 0 ≡ count - 1 = omega arith in
    let there = c.from_last-message.ensures ∙ ap (λ i. get_or ms i m) last in
    let some : 0 < count = (let n = c.if-front-eq0.false in grind (arith, nat_tests, n)) in
    top_other ms key c.args.at count c.front_up_to-front.ensures.count m some there c.len-known.ensures.rising (sym c.is_same.ensures ∙ c.if-is_same.false)
