use Rattle.std.proofs.Common.{◌≡◌, ◌+◌, length, take, drop, sym, ap, ◌∙◌, arith, length-take, length-drop, take_at}
use Rattle.stow_message.specs.Packed.{message_bytes}
use Rattle.stow_message.proofs.Reading.{length-message_bytes}
use Rattle.stow_message.proofs.Stored.{there, room, key_len_is, value_len_is, read_is}
use Rattle.stow_message.proofs.message_buf.packed_at.Goals as goal

pub bytes-requires : goal.bytes-requires
bytes-requires g c = let front = c.args.raw.now.front in let at = c.args.at in let b = c.requires.begins in
    omega (arith, room front at b)

pub read_head-head-requires : goal.read_head-head-requires
read_head-head-requires g c = let front = c.args.raw.now.front in let at = c.args.at in let b = c.requires.begins in
    omega (arith, room front at b, ap length c.bytes.ensures, length-take 15 (drop at front), length-drop at front)

pub bytes-requires-2 : goal.bytes-requires-2
bytes-requires-2 g c = let front = c.args.raw.now.front in let at = c.args.at in let b = c.requires.begins in let hs = c.bytes.result.now in let e = c.bytes.ensures in
    omega (arith, room front at b, c.read_head-head.ensures.key_len ∙ key_len_is front at b hs e, c.read_head-head.ensures.value_len ∙ value_len_is front at b hs e)

pub returns : goal.returns
returns g c = let front = c.args.raw.now.front in let at = c.args.at in let b = c.requires.begins in let hs = c.bytes.result.now in let e = c.bytes.ensures in
    let m = there front at b in let len = 15 + c.read_head-head.result.key_len + c.read_head-head.result.value_len in
    let all : length (message_bytes m) ≡ len = omega (arith, length-message_bytes m, c.read_head-head.ensures.key_len ∙ key_len_is front at b hs e, c.read_head-head.ensures.value_len ∙ value_len_is front at b hs e) in
    c.bytes-2.ensures ∙ ap (take len) b.is ∙ take_at (message_bytes m) b.rest len all ∙ ap message_bytes (sym (read_is front at b))

pub overflow_add-head : goal.overflow_add-head
overflow_add-head g c = let front = c.args.raw.now.front in let at = c.args.at in let b = c.requires.begins in let hs = c.bytes.result.now in let e = c.bytes.ensures in
    record { fits = omega (arith, room front at b, c.requires.small, c.read_head-head.ensures.key_len ∙ key_len_is front at b hs e) }

pub overflow_add-head-2 : goal.overflow_add-head-2
overflow_add-head-2 g c = let front = c.args.raw.now.front in let at = c.args.at in let b = c.requires.begins in let hs = c.bytes.result.now in let e = c.bytes.ensures in
    record { fits = omega (arith, room front at b, c.requires.small, c.read_head-head.ensures.key_len ∙ key_len_is front at b hs e, c.read_head-head.ensures.value_len ∙ value_len_is front at b hs e) }
