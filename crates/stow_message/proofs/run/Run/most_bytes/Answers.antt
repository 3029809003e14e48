use Rattle.std.proofs.Common.{◌-◌, ◌*◌, ◌≤◌, drop, subst, ap, arith}
use Rattle.std.specs.List.{sum_by}
use Rattle.std.proofs.lemmas.List.Sums.{sum_by-take-le, sum_by-take-drop}
use Rattle.stow_message.specs.Packed.{message_size}
use Rattle.stow_message.proofs.Bounded.{sizes_bounded}
use Rattle.stow_message.proofs.run.Run.most_bytes.Goals as goal

pub returns : goal.returns
returns g c =
    let r = c.self.inside in let rest = drop r.from r.buf.now.messages in
    let in_use = subst (λ ms. sum_by message_size ms ≤ c.used-known.result) c.self.view_is
    (omega (arith, sum_by-take-le message_size rest (r.to - r.from), sum_by-take-drop message_size r.buf.now.messages r.from, c.used-known.ensures.live)) in
    omega (arith, in_use, c.used-known.type_inv, sizes_bounded c.largest.result c.args.self.now c.largest.ensures, ap (λ n. n * c.largest.result) c.len.ensures, c.saturating_mul.ensures)
