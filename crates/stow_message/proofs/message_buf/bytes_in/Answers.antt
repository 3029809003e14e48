use Rattle.std.proofs.Common.{◌≡◌, ◌+◌, ◌-◌, ◌≤◌, ◌∙◌, take, drop, ap, arith}
use Rattle.std.specs.List.{sum_by}
use Rattle.stow_message.specs.Packed.{message_size}
use Rattle.stow_message.proofs.Counted.{others_counted}
use Rattle.stow_message.proofs.message_buf.bytes_in.Given as given
use Rattle.stow_message.proofs.message_buf.bytes_in.Goals as goal
use Rattle.stow_message.proofs.message_buf.bytes_in.Goals.{After-live}

-- those of the run and of the others are all that are counted
all_counted : (g : given.Over) (c : After-live g) → c.sum_of-before.result + (sum_by message_size c.args.run.now + c.sum_of-after.result) ≡ c.live.result
all_counted g c =
    let r = c.run.inside in let ms = r.buf.now.messages in
    let all : r.from - 0 ≡ r.from = omega arith in
    let before : c.sum_of-before.result ≡ sum_by message_size (take r.from ms) = c.sum_of-before.ensures ∙ ap (λ k. sum_by message_size (take k ms)) all in
    let after : c.sum_of-after.result ≡ sum_by message_size (take (c.len-count.result - r.to) (drop r.to ms)) = c.sum_of-after.ensures in
    let run : sum_by message_size (take (r.to - r.from) (drop r.from ms)) ≡ sum_by message_size c.args.run.now = ap (sum_by message_size) c.run.view_is in
    let within : r.to ≤ c.len-count.result = omega (arith, c.run.invariant.1, c.len-count.ensures.len) in
    omega (arith, before, after, run, c.live.ensures, others_counted ms r.from r.to c.len-count.result c.run.invariant.0 within c.len-count.ensures.len)

pub overflow_sub-result-2 : goal.overflow_sub-result-2
overflow_sub-result-2 g c = omega (arith, all_counted g c)

pub returns : goal.returns
returns g c = omega (arith, all_counted g c)
