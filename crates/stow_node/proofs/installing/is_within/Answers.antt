use Rattle.std.proofs.Common.{◌≡◌, ◌∙◌, length, ap, arith}
use Rattle.std.proofs.lemmas.Bool.Decides.{nat_tests}
use Rattle.stow_node.proofs.Batches.{all_within, as_many}
use Rattle.stow_node.proofs.installing.is_within.Goals as goal

pub returns : goal.returns
returns g c =
    let many = c.len.ensures ∙ ap length c.in_range.ensures.messages in (
      λ t. all_within c.args.low.bytes.now c.args.high.bytes.now c.args.batch.now.messages c.len.result c.len-2.result many c.len-2.ensures.len (grind (arith, nat_tests, t)),
      λ w. let e : c.len.result ≡ c.len-2.result = as_many c.args.low.bytes.now c.args.high.bytes.now c.args.batch.now.messages c.len.result c.len-2.result many c.len-2.ensures.len w in grind (arith, nat_tests, e),
    )
