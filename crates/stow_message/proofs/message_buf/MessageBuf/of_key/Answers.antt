use Rattle.std.proofs.Common.{arith, ap, sym, ◌∙◌}
use Rattle.std.specs.Prelude.{reverse}
use Rattle.stow_message.proofs.RisingLists.{below_within}
use Rattle.stow_message.proofs.Ranges.{key_is}
use Rattle.stow_message.proofs.message_buf.MessageBuf.of_key.Goals as goal

pub returns-then-not-may_have : goal.returns-then-not-may_have
returns-then-not-may_have g c = c.none.ensures ∙ sym (ap reverse (c.may_have.ensures c.if-not-may_have.true))

pub search_from-to-requires : goal.search_from-to-requires
search_from-to-requires g c = omega (arith, c.search-from.ensures.count, below_within (c.args.key.bytes.now, 0) c.args.self.now.messages)

pub invariant_of-result : goal.invariant_of-result
invariant_of-result g c = let ms = c.args.self.now.messages in let lo = below_within (c.args.key.bytes.now, 0) ms in let hi = below_within (c.args.key.bytes.now, 18446744073709551615) ms in let to = c.search_from-to.ensures in
    (omega (arith, to), omega (arith, to, c.search-from.ensures.count, lo, hi), c.search_from-to.type_inv)

pub returns : goal.returns
returns g c = ap reverse (key_is c.args.key.bytes.now c.args.self.now.messages c.search-from.result c.search_from-to.result c.search-from.ensures.count c.search_from-to.ensures c.search-from.ensures.rising c.search-from.ensures.valid)
