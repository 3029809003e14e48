use Rattle.stow_page.proofs.Fields.{bytes_fit, unfit, after_length, length_ends, bad_length, index_ends, bad_index, key_ends, is_key, key_is_read}
use Rattle.stow_page.proofs.reading.read_key.Goals as goal

pub returns-then-bytes-lt2-clause-err : goal.returns-then-bytes-lt2-clause-err
returns-then-bytes-lt2-clause-err c = λ format.
    length_ends format c.args.bytes.now c.if-bytes-lt2.true

pub returns-then-not-is_key_length-clause-err : goal.returns-then-not-is_key_length-clause-err
returns-then-not-is_key_length-clause-err c = λ format.
    bad_length format c.args.bytes.now c.u16_at_front-length.result c.if-bytes-lt2.false (bytes_fit c.args.bytes.now c.type_inv.bytes) c.u16_at_front-length.ensures c.u16_at_front-length.type_inv (unfit _ c.is_key_length.ensures c.if-not-is_key_length.true)

pub returns-then-rest-lt4-clause-err : goal.returns-then-rest-lt4-clause-err
returns-then-rest-lt4-clause-err c = λ format.
    index_ends format _ _ _ (after_length c.args.bytes.now c.split_at.result.1.now c.u16_at_front-length.result c.if-bytes-lt2.false (bytes_fit c.args.bytes.now c.type_inv.bytes) c.u16_at_front-length.ensures c.split_at.ensures.back (c.is_key_length.ensures.0 c.if-not-is_key_length.false)) c.if-rest-lt4.true

pub returns-then-not-is_tenant_index-clause-err : goal.returns-then-not-is_tenant_index-clause-err
returns-then-not-is_tenant_index-clause-err c = λ format.
    bad_index format _ _ _ c.u32_at_front-tenant.result (after_length c.args.bytes.now c.split_at.result.1.now c.u16_at_front-length.result c.if-bytes-lt2.false (bytes_fit c.args.bytes.now c.type_inv.bytes) c.u16_at_front-length.ensures c.split_at.ensures.back (c.is_key_length.ensures.0 c.if-not-is_key_length.false))
    c.if-rest-lt4.false c.u32_at_front-tenant.ensures c.u32_at_front-tenant.type_inv (unfit _ c.is_tenant_index.ensures c.if-not-is_tenant_index.true)

pub returns-then-rest-length-clause-err : goal.returns-then-rest-length-clause-err
returns-then-rest-length-clause-err c = λ format.
    key_ends format _ _ _ c.u32_at_front-tenant.result (after_length c.args.bytes.now c.split_at.result.1.now c.u16_at_front-length.result c.if-bytes-lt2.false (bytes_fit c.args.bytes.now c.type_inv.bytes) c.u16_at_front-length.ensures c.split_at.ensures.back (c.is_key_length.ensures.0 c.if-not-is_key_length.false))
    c.if-rest-lt4.false c.u32_at_front-tenant.ensures (c.is_tenant_index.ensures.0 c.if-not-is_tenant_index.false) c.if-rest-length.true

pub invariant_of-result : goal.invariant_of-result
invariant_of-result c =
    let both = is_key _ _ _ c.u32_at_front-tenant.result (after_length c.args.bytes.now c.split_at.result.1.now c.u16_at_front-length.result c.if-bytes-lt2.false (bytes_fit c.args.bytes.now c.type_inv.bytes) c.u16_at_front-length.ensures c.split_at.ensures.back (c.is_key_length.ensures.0 c.if-not-is_key_length.false))
    c.if-rest-length.false c.u32_at_front-tenant.ensures c.u32_at_front-tenant.type_inv (c.is_tenant_index.ensures.0 c.if-not-is_tenant_index.false) in
    record { is_key = rw c.split_at-2.ensures.front both.0 }

pub returns-clause-ok : goal.returns-clause-ok
returns-clause-ok c =
    let after = after_length c.args.bytes.now c.split_at.result.1.now c.u16_at_front-length.result c.if-bytes-lt2.false (bytes_fit c.args.bytes.now c.type_inv.bytes) c.u16_at_front-length.ensures c.split_at.ensures.back (c.is_key_length.ensures.0 c.if-not-is_key_length.false) in
    let both = is_key _ _ _ c.u32_at_front-tenant.result after
    c.if-rest-length.false c.u32_at_front-tenant.ensures c.u32_at_front-tenant.type_inv (c.is_tenant_index.ensures.0 c.if-not-is_tenant_index.false) in
    (key_is_read _ _ _ _ _ after c.split_at-2.ensures.by_index.0 c.split_at-2.ensures.front_len, rw c.split_at-2.ensures.front both.1)
