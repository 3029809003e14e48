use Rattle.std.proofs.Common.{◌+◌, length, drop, refl, sym, ap, ◌∙◌, arith, length-take, length-drop}
use Rattle.stow_tree_model.specs.TreeMessage.{TreeMessage}
use Rattle.stow_message.proofs.Stored.{room, key_len_is, key_is, read_is}
use Rattle.stow_message.proofs.slots.key_at.Goals as goal

pub bytes-requires : goal.bytes-requires
bytes-requires g c = let front = c.args.raw.now.front in let at = c.args.at in let b = c.requires.begins in omega (arith, room front at b)

pub read_key_len-len-requires : goal.read_key_len-len-requires
read_key_len-len-requires g c = let front = c.args.raw.now.front in let at = c.args.at in let b = c.requires.begins in
    omega (arith, room front at b, ap length c.bytes.ensures, length-take 15 (drop at front), length-drop at front)

pub overflow_add-at : goal.overflow_add-at
overflow_add-at g c = let front = c.args.raw.now.front in let at = c.args.at in let b = c.requires.begins in
    record { fits = omega (arith, room front at b, c.requires.small) }

pub bytes-requires-2 : goal.bytes-requires-2
bytes-requires-2 g c = let front = c.args.raw.now.front in let at = c.args.at in let b = c.requires.begins in
    omega (arith, room front at b, c.read_key_len-len.ensures ∙ key_len_is front at b c.bytes.result.now c.bytes.ensures)

pub returns : goal.returns
returns g c = let front = c.args.raw.now.front in let at = c.args.at in let b = c.requires.begins in
    c.bytes-2.ensures ∙ key_is front at b (at + 15) c.read_key_len-len.result refl (c.read_key_len-len.ensures ∙ key_len_is front at b c.bytes.result.now c.bytes.ensures)
    ∙ sym (ap (λ (m : TreeMessage). m.key) (read_is front at b))
