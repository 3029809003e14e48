use Rattle.stow_page.proofs.Fields.{bytes_fit, unfit, number_ends, bad_number}
use Rattle.stow_page.proofs.reading.read_number.Goals as goal

pub returns-then-bytes-lt8-clause-err : goal.returns-then-bytes-lt8-clause-err
returns-then-bytes-lt8-clause-err c = λ format key good. number_ends format key c.args.bytes.now good c.if-bytes-lt8.true

pub returns-then-not-is_number-clause-err : goal.returns-then-not-is_number-clause-err
returns-then-not-is_number-clause-err c = λ format key good.
    bad_number format key c.args.bytes.now c.u64_at_front-number.result good c.if-bytes-lt8.false (bytes_fit c.args.bytes.now c.type_inv.bytes) c.u64_at_front-number.ensures c.u64_at_front-number.type_inv (unfit _ c.is_number.ensures c.if-not-is_number.true)
