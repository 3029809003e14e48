use Rattle.std.proofs.Common.{◌≡◌, ◌∙◌, false, List, length, take, reverse, get_or, refl, sym, ap, subst, map, ◌<◌, ◌+◌, ◌≤◌, take_all}
use Rattle.std.specs.Prelude.{◌&&◌, nat_le}
use Rattle.std.proofs.Math.ListN.{get_or-map}
use Rattle.std.proofs.lemmas.Bool.{and_left, and_right, lt-leb}
use Rattle.std.proofs.lemmas.List.{length-map}
use Rattle.stow_tree_model.specs.Order.{MessagesRise}
use Rattle.stow_tree_model.specs.Operations.{numbered}
use Rattle.stow_tree_model.specs.Messages.{set_of, in_order, with_all}
use Rattle.stow_tree_model.specs.Merged.{same_key}
use Rattle.stow_tree_model.specs.TreeMessage.{TreeMessage, message_of}
use Rattle.stow_tree_model.proofs.Falling.{value_by}
use Rattle.stow_tree_model.proofs.Readings.{rises_nothing, rises-in_order, read_own, read_other, read_all}
use Rattle.stow_tree_model.proofs.plain.value_at.value_of_key.Goals as goal
use Rattle.stow_tree_model.proofs.plain.value_at.value_of_key.Goals.{then-is_same+then-message-number+in_ok-found, else-is_same, else-is_same-via-then-is_same+else-message-number, else-is_same-via-else-is_same}

pub with_messages-requires : goal.with_messages-requires
with_messages-requires g c = subst (λ xs. MessagesRise (map message_of xs)) (sym c.new.ensures.items) rises_nothing

pub loop-message-init : goal.loop-message-init
unfolding value_by
loop-message-init g c = refl

pub loop-message-preserved : goal.loop-message-preserved
loop-message-preserved g c =
    let ordered : List TreeMessage = map message_of c.as_slice-ordered.result.now in
    let i = c.loop-message.message-index in
    let m = message_of c.message-item.result in
    let key = c.args.key.bytes.now in
    let n = c.args.number in
    let rises : MessagesRise ordered = rises-in_order _ _ (ap (map message_of) c.as_slice-ordered.ensures.value ∙ c.in_ok-sorted.ensures) in
    let in_range : i < length ordered = subst (λ k. i < k) (sym (length-map c.as_slice-ordered.result.now message_of)) c.loop-message-test.true in
    let here : m ≡ get_or ordered i m = ap message_of c.message-item.is ∙ sym (get_or-map message_of c.as_slice-ordered.result.now i c.message-item.result) in
    let skip : (same_key key m.key && nat_le m.number n) ≡ false → numbered c.loop-message.at c.loop-message.found ≡ value_by (reverse (take (i + 1) ordered)) key n = λ e. read_other ordered i n m key (numbered c.loop-message.at c.loop-message.found) in_range here e c.loop-message.invariant in
    elim c.if-is_same.branch [
      | then-is_same+then-message-number+in_ok-found w ↦
          (λ k. numbered (w.at-is k) (w.found-is k)) ∙ ap (numbered m.number) w.in_ok-found.ensures
          ∙ read_own ordered i n c.loop-message.at m key c.loop-message.found rises in_range here (sym c.is_same.ensures ∙ w.if-is_same.true) w.if-message-number.true c.loop-message.invariant
      | else-is_same w ↦ (λ k. numbered (w.at-is k) (w.found-is k)) ∙ skip (elim w.else-is_same.branch [
        | else-is_same-via-then-is_same+else-message-number v ↦ and_right (same_key key m.key) _ (lt-leb m.number n v.if-message-number.false)
        | else-is_same-via-else-is_same v ↦ and_left (same_key key m.key) (nat_le m.number n) (sym c.is_same.ensures ∙ v.if-is_same.false)
      ])
    ]

pub returns : goal.returns
returns g c =
    let ordered : List TreeMessage = map message_of c.as_slice-ordered.result.now in
    let past : length ordered ≤ c.loop-message.message-index = subst (λ k. k ≤ c.loop-message.message-index) (sym (length-map c.as_slice-ordered.result.now message_of)) c.loop-message-test.false in
    let sorted : ordered ≡ in_order (set_of (map message_of c.args.messages.now)) = ap (map message_of) c.as_slice-ordered.ensures.value ∙ c.in_ok-sorted.ensures
    ∙ ap (λ xs. in_order (with_all (set_of (map message_of xs)) (map message_of c.args.messages.now))) c.new.ensures.items in
    c.with_number.ensures ∙ c.loop-message.invariant
    ∙ ap (λ (ms : List TreeMessage). value_by (reverse ms) c.args.key.bytes.now c.args.number) (take_all c.loop-message.message-index ordered past)
    ∙ read_all ordered (set_of (map message_of c.args.messages.now)) c.args.key.bytes.now c.args.number sorted
