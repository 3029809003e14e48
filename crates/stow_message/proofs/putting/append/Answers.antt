use Rattle.std.proofs.Common.{length, ap, arith, length-append}
use Rattle.stow_slots.specs.StowRaw.RawBuf.{RawLists, raw_used}
use Rattle.stow_tree_model.specs.TreeMessage.{TreeMessage, message_of}
use Rattle.stow_message.proofs.Reading.{length-message_bytes}
use Rattle.stow_message.proofs.Pushed.{after_bytes}
use Rattle.stow_message.proofs.putting.append.Goals as goal

pub push_front-requires : goal.push_front-requires
push_front-requires g c =
    let raw = c.args.raw.now in let m : TreeMessage = message_of c.args.message in let fits = c.requires in
    omega (arith, fits, length-message_bytes m, ap length c.write_head.ensures)

pub push_front-requires-2 : goal.push_front-requires-2
push_front-requires-2 g c =
    let raw = c.args.raw.now in let m : TreeMessage = message_of c.args.message in let fits = c.requires in
    let hs = c.write_head.result in let e₁ = c.push_front.ensures in
    omega (arith, fits, length-message_bytes m, ap length c.write_head.ensures, ap raw_used e₁, ap (λ (r : RawLists). r.capacity) e₁, length-append raw.front hs)

pub push_front-requires-3 : goal.push_front-requires-3
push_front-requires-3 g c =
    let raw = c.args.raw.now in let m : TreeMessage = message_of c.args.message in let fits = c.requires in
    let hs = c.write_head.result in let e₁ = c.push_front.ensures in let e₂ = c.push_front-2.ensures in let r₁ = c.push_front.new.self in
    omega (
      arith,
      fits,
      length-message_bytes m,
      ap length c.write_head.ensures,
      ap length c.carried.ensures,
      ap raw_used e₁,
      ap (λ (r : RawLists). r.capacity) e₁,
      length-append raw.front hs,
      ap raw_used e₂,
      ap (λ (r : RawLists). r.capacity) e₂,
      length-append r₁.front m.key,
    )

pub returns : goal.returns
returns g c =
    after_bytes c.args.raw.now c.push_front.new.self c.push_front-2.new.self c.push_front-3.new.self (message_of c.args.message) c.write_head.result c.carried.result.now
    c.push_front.ensures c.push_front-2.ensures c.push_front-3.ensures c.write_head.ensures c.carried.ensures
