use Rattle.std.proofs.Common.{arith}
use Rattle.std.proofs.lemmas.Grind.{common_steps}
use Rattle.stow_page.proofs.Fields.{bytes_fit, header_is_read}
use Rattle.stow_page.proofs.reading.read_header.Goals as goal

pub returns-clause-ok : goal.returns-clause-ok
returns-clause-ok c = header_is_read c.args.bytes.now c.in-Some.byte.now c.in_ok-format.format c.in-Some.rest.now c.split_at.result.1.now c.u32_at_front-count.result (bytes_fit c.args.bytes.now c.type_inv.bytes) c.in-Some.ensures.cases.0 c.in_ok-format.ensures.ok c.if-rest-lt4.false c.u32_at_front-count.ensures c.split_at.ensures.back

pub returns-in_default-clause-err : goal.returns-in_default-clause-err
returns-in_default-clause-err c = grind (arith, common_steps)
