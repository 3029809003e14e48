use Rattle.std.proofs.Common.{◌≡◌, ◌+◌, ◌-◌, ◌<◌, get_or, sym, ap, ◌∙◌, arith}
use Rattle.std.proofs.lemmas.List.{get_or_default}
use Rattle.std.proofs.lemmas.Slice.Eq.{bytes_eq-Decides}
use Rattle.stow_tree_model.specs.TreeMessage.{TreeMessage, message_of}
use Rattle.stow_message.specs.Rising.{below}
use Rattle.stow_message.proofs.Oldest.{first_of_all, first_of_next, next_within}
use Rattle.stow_message.proofs.RisingLists.{no_path}
use Rattle.stow_message.proofs.message_buf.MessageBuf.first_number.Goals as goal

pub returns-then-index-eq0-clause-first : goal.returns-then-index-eq0-clause-first
returns-then-index-eq0-clause-first g c none = first_of_all c.args.self.now.messages c.len-known.ensures.rising c.args.index c.requires none (λ some. absurd (omega (arith, some, c.if-index-eq0.true)))

pub returns-then-eq-clause-first : goal.returns-then-eq-clause-first
returns-then-eq-clause-first g c none =
    let ms = c.args.self.now.messages in let i = c.args.index in let a : TreeMessage = message_of c.message-before.result in let b : TreeMessage = message_of c.message.result in let some : 0 < i = omega (arith, c.if-index-eq0.false) in
    let before : a ≡ get_or ms (i - 1) none = c.message-before.ensures ∙ get_or_default ms (i - 1) a none (omega (arith, c.requires)) in let here : b ≡ get_or ms i none = c.message.ensures ∙ get_or_default ms i b none c.requires in
    let own : (get_or ms (i - 1) none).key ≡ (get_or ms i none).key = ap (λ (m : TreeMessage). m.key) (sym before) ∙ (bytes_eq-Decides a.key b.key).0 (sym c.eq.ensures ∙ c.if-eq.true) ∙ ap (λ (m : TreeMessage). m.key) here in
    ap (λ (m : TreeMessage). below ((get_or ms i none).key, m.number + 1) ms) before ∙ first_of_next ms c.len-known.ensures.rising i c.requires none some own

pub returns-then-eq-clause-within : goal.returns-then-eq-clause-within
returns-then-eq-clause-within g c none =
    let ms = c.args.self.now.messages in let i = c.args.index in let a : TreeMessage = message_of c.message-before.result in let b : TreeMessage = message_of c.message.result in let some : 0 < i = omega (arith, c.if-index-eq0.false) in
    let before : a ≡ get_or ms (i - 1) none = c.message-before.ensures ∙ get_or_default ms (i - 1) a none (omega (arith, c.requires)) in let here : b ≡ get_or ms i none = c.message.ensures ∙ get_or_default ms i b none c.requires in
    let own : (get_or ms (i - 1) none).key ≡ (get_or ms i none).key = ap (λ (m : TreeMessage). m.key) (sym before) ∙ (bytes_eq-Decides a.key b.key).0 (sym c.eq.ensures ∙ c.if-eq.true) ∙ ap (λ (m : TreeMessage). m.key) here in
    let number : a.number ≡ (get_or ms (i - 1) none).number = ap (λ (m : TreeMessage). m.number) before in
    omega (arith, number, next_within ms c.len-known.ensures.rising i c.requires none some own)

pub returns-then-eq-clause-past : goal.returns-then-eq-clause-past
returns-then-eq-clause-past g c none more =
    let ms = c.args.self.now.messages in let i = c.args.index in let a : TreeMessage = message_of c.message-before.result in let b : TreeMessage = message_of c.message.result in let some : 0 < i = omega (arith, c.if-index-eq0.false) in
    let before : a ≡ get_or ms (i - 1) none = c.message-before.ensures ∙ get_or_default ms (i - 1) a none (omega (arith, c.requires)) in let here : b ≡ get_or ms i none = c.message.ensures ∙ get_or_default ms i b none c.requires in
    let own : (get_or ms (i - 1) none).key ≡ (get_or ms i none).key = ap (λ (m : TreeMessage). m.key) (sym before) ∙ (bytes_eq-Decides a.key b.key).0 (sym c.eq.ensures ∙ c.if-eq.true) ∙ ap (λ (m : TreeMessage). m.key) here in
    (some, own, ap (λ (m : TreeMessage). m.number + 1) before)

pub returns-else-eq-clause-first : goal.returns-else-eq-clause-first
returns-else-eq-clause-first g c none =
    let ms = c.args.self.now.messages in let i = c.args.index in let a : TreeMessage = message_of c.message-before.result in let b : TreeMessage = message_of c.message.result in let some : 0 < i = omega (arith, c.if-index-eq0.false) in
    let before : a ≡ get_or ms (i - 1) none = c.message-before.ensures ∙ get_or_default ms (i - 1) a none (omega (arith, c.requires)) in let here : b ≡ get_or ms i none = c.message.ensures ∙ get_or_default ms i b none c.requires in
    first_of_all ms c.len-known.ensures.rising i c.requires none
    (λ _ own. no_path (sym (c.if-eq.false) ∙ c.eq.ensures ∙ (bytes_eq-Decides a.key b.key).1 (ap (λ (m : TreeMessage). m.key) before ∙ own ∙ ap (λ (m : TreeMessage). m.key) (sym here))))
