use Rattle.std.proofs.Common.{length, drop, sym, ap, ◌∙◌, arith, length-take, length-drop}
use Rattle.stow_tree_model.specs.TreeMessage.{TreeMessage}
use Rattle.stow_message.proofs.Stored.{room, number_is, read_is}
use Rattle.stow_message.proofs.slots.number_in.Goals as goal

pub bytes-requires : goal.bytes-requires
bytes-requires g c = let front = c.args.raw.now.front in let at = c.args.at in let b = c.requires.begins in omega (arith, room front at b)

pub read_number-requires : goal.read_number-requires
read_number-requires g c = let front = c.args.raw.now.front in let at = c.args.at in let b = c.requires.begins in
    omega (arith, room front at b, ap length c.bytes.ensures, length-take 15 (drop at front), length-drop at front)

pub returns : goal.returns
returns g c = let front = c.args.raw.now.front in let at = c.args.at in let b = c.requires.begins in
    c.read_number.ensures ∙ number_is front at b c.bytes.result.now c.bytes.ensures
    ∙ sym (ap (λ (m : TreeMessage). m.number) (read_is front at b))
