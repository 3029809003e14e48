use Rattle.std.proofs.Common.{◌+◌, ◌<◌, [], ◌++◌, length, get_or, take, ap, sym, ◌∙◌, arith, append_assoc, length-append}
use Rattle.std.proofs.lemmas.List.{get_or_default}
use Rattle.stow_slots.specs.StowRaw.RawBuf.{RawLists, raw_lists, raw_used}
use Rattle.stow_tree_model.specs.Op.{Gone}
use Rattle.stow_tree_model.specs.TreeMessage.{TreeMessage}
use Rattle.stow_message.specs.Packed.{message_bytes, all_bytes}
use Rattle.stow_message.proofs.Squeezed.{all_bytes-more, taken_within}
use Rattle.stow_message.proofs.putting.append_all.Goals as goal

none : TreeMessage
none = record { key = []; number = 0; op = Gone }

pub push_front-requires : goal.push_front-requires
push_front-requires g c =
    let raw = c.args.raw.now in let run = c.args.run.now in let i = c.loop-i.i in let e = c.loop-i.invariant in let m : TreeMessage = get_or run i none in
    let lt : i < length run = omega (arith, c.loop-i-test.true, c.len-i-end.ensures) in
    omega (
      arith,
      c.requires,
      ap raw_used e,
      ap (λ (r : RawLists). r.capacity) e,
      ap length (c.packed.ensures none),
      ap length (all_bytes-more run i m lt (get_or_default run i none m lt)),
      taken_within run (i + 1),
      length-append raw.front (all_bytes (take i run)),
      length-append (all_bytes (take i run)) (message_bytes m),
    )

pub loop-i-preserved : goal.loop-i-preserved
loop-i-preserved g c =
    let raw = c.args.raw.now in let run = c.args.run.now in let i = c.loop-i.i in let m : TreeMessage = get_or run i none in
    let lt : i < length run = omega (arith, c.loop-i-test.true, c.len-i-end.ensures) in
    c.push_front.ensures ∙ (λ j. raw_lists ((c.loop-i.invariant j).front ++ c.packed.ensures none j) (c.loop-i.invariant j).slots (c.loop-i.invariant j).capacity)
    ∙ ap (λ l. raw_lists l raw.slots raw.capacity) (append_assoc raw.front (all_bytes (take i run)) (message_bytes m) ∙ ap (λ l. raw.front ++ l) (sym (all_bytes-more run i m lt (get_or_default run i none m lt))))
