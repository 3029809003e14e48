use Rattle.std.proofs.Common.{◌≤◌, ◌<◌, length, drop, ◌∙◌, ap, subst}
use Rattle.stow_page.proofs.Fields.{bytes_fit, put_length_ends, bad_put_length, value_ends, value_is_read}
use Rattle.stow_page.proofs.reading.read_value.Goals as goal

pub returns-then-bytes-width-clause-err : goal.returns-then-bytes-width-clause-err
returns-then-bytes-width-clause-err c = λ key number good.
    put_length_ends c.args.format key c.args.bytes.now number good (subst (λ w. length c.args.bytes.now < w) c.length_width-width.ensures c.if-bytes-width.true)

pub returns-then-length-gt-VALUE_LIMIT-clause-err : goal.returns-then-length-gt-VALUE_LIMIT-clause-err
returns-then-length-gt-VALUE_LIMIT-clause-err c = λ key number good.
    bad_put_length c.args.format key c.args.bytes.now number c.length_at_front-length.result good (subst (λ w. w ≤ length c.args.bytes.now) c.length_width-width.ensures c.if-bytes-width.false) (bytes_fit c.args.bytes.now c.type_inv.bytes)
    c.length_at_front-length.ensures.length c.if-length-gt-VALUE_LIMIT.true

pub returns-then-rest-length-clause-err : goal.returns-then-rest-length-clause-err
returns-then-rest-length-clause-err c = λ key number good.
    value_ends c.args.format key c.args.bytes.now c.split_at.result.1.now number c.length_at_front-length.result good (subst (λ w. w ≤ length c.args.bytes.now) c.length_width-width.ensures c.if-bytes-width.false) (bytes_fit c.args.bytes.now c.type_inv.bytes)
    c.length_at_front-length.ensures.length c.if-length-gt-VALUE_LIMIT.false (c.split_at.ensures.back ∙ ap (λ w. drop w c.args.bytes.now) c.length_width-width.ensures) c.if-rest-length.true

pub returns-clause-ok : goal.returns-clause-ok
returns-clause-ok c =
    value_is_read c.args.format c.args.bytes.now c.split_at.result.1.now c.split_at-2.result.0.now c.split_at-2.result.1.now c.length_at_front-length.result (subst (λ w. w ≤ length c.args.bytes.now) c.length_width-width.ensures c.if-bytes-width.false) (bytes_fit c.args.bytes.now c.type_inv.bytes)
    c.length_at_front-length.ensures.length c.if-length-gt-VALUE_LIMIT.false (c.split_at.ensures.back ∙ ap (λ w. drop w c.args.bytes.now) c.length_width-width.ensures) c.split_at-2.ensures.by_index.0 c.split_at-2.ensures.front_len
