use Rattle.std.proofs.Common.{◌≡◌, ◌+◌, ◌≤◌, length, drop, refl, sym, ap, ◌∙◌, arith, subst, length-take, length-drop}
use Rattle.stow_tree_model.specs.StowBytes.Limits.{value_limit, number_limit}
use Rattle.stow_tree_model.specs.Keys.{IsTenantKey, IsOfTenant}
use Rattle.stow_tree_model.specs.Op.{bytes_in, op_of}
use Rattle.stow_message.specs.Packed.{op_by}
use Rattle.stow_message.specs.MessageBuf.{op_is}
use Rattle.stow_message.proofs.Stored.{there, room, key_len_is, number_is, kind_is, value_len_is, key_is, value_is, read_is}
use Rattle.stow_message.proofs.message_buf.read_message.Goals as goal

pub bytes-requires : goal.bytes-requires
bytes-requires g c =
    let front = c.args.raw.now.front in let at = c.args.at in let b = c.requires.begins in let m = there front at b in
    omega (arith, room front at b)

pub read_head-head-requires : goal.read_head-head-requires
read_head-head-requires g c =
    let front = c.args.raw.now.front in let at = c.args.at in let b = c.requires.begins in let m = there front at b in
    omega (arith, room front at b, ap length c.bytes.ensures, length-take 15 (drop at front), length-drop at front)

pub bytes-key-requires : goal.bytes-key-requires
bytes-key-requires g c =
    let front = c.args.raw.now.front in let at = c.args.at in let b = c.requires.begins in let m = there front at b in
    let hs = c.bytes.result.now in let e = c.bytes.ensures in let k = c.read_head-head.ensures.key_len ∙ key_len_is front at b hs e in let n = c.read_head-head.ensures.number ∙ number_is front at b hs e in let t = c.read_head-head.ensures.kind ∙ kind_is front at b hs e in let l = c.read_head-head.ensures.value_len ∙ value_len_is front at b hs e in
    omega (arith, room front at b)

pub overflow_add-at-3 : goal.overflow_add-at-3
overflow_add-at-3 g c =
    let front = c.args.raw.now.front in let at = c.args.at in let b = c.requires.begins in let m = there front at b in
    let hs = c.bytes.result.now in let e = c.bytes.ensures in let k = c.read_head-head.ensures.key_len ∙ key_len_is front at b hs e in let n = c.read_head-head.ensures.number ∙ number_is front at b hs e in let t = c.read_head-head.ensures.kind ∙ kind_is front at b hs e in let l = c.read_head-head.ensures.value_len ∙ value_len_is front at b hs e in
    record { fits = omega (arith, room front at b, c.requires.small) }

pub bytes-value-requires : goal.bytes-value-requires
bytes-value-requires g c =
    let front = c.args.raw.now.front in let at = c.args.at in let b = c.requires.begins in let m = there front at b in
    let hs = c.bytes.result.now in let e = c.bytes.ensures in let k = c.read_head-head.ensures.key_len ∙ key_len_is front at b hs e in let n = c.read_head-head.ensures.number ∙ number_is front at b hs e in let t = c.read_head-head.ensures.kind ∙ kind_is front at b hs e in let l = c.read_head-head.ensures.value_len ∙ value_len_is front at b hs e in
    omega (arith, room front at b)

pub from_packed-requires : goal.from_packed-requires
from_packed-requires g c =
    let front = c.args.raw.now.front in let at = c.args.at in let b = c.requires.begins in let m = there front at b in
    let hs = c.bytes.result.now in let e = c.bytes.ensures in let k = c.read_head-head.ensures.key_len ∙ key_len_is front at b hs e in let n = c.read_head-head.ensures.number ∙ number_is front at b hs e in let t = c.read_head-head.ensures.kind ∙ kind_is front at b hs e in let l = c.read_head-head.ensures.value_len ∙ value_len_is front at b hs e in
    subst IsTenantKey (sym (c.bytes-key.ensures ∙ key_is front at b (at + 15) c.read_head-head.result.key_len refl k)) b.is_message.is_key

pub invariant_of-result : goal.invariant_of-result
invariant_of-result g c =
    let front = c.args.raw.now.front in let at = c.args.at in let b = c.requires.begins in let m = there front at b in
    let hs = c.bytes.result.now in let e = c.bytes.ensures in let k = c.read_head-head.ensures.key_len ∙ key_len_is front at b hs e in let n = c.read_head-head.ensures.number ∙ number_is front at b hs e in let t = c.read_head-head.ensures.kind ∙ kind_is front at b hs e in let l = c.read_head-head.ensures.value_len ∙ value_len_is front at b hs e in
    let key : c.from_packed.result.bytes.now ≡ m.key = c.from_packed.ensures ∙ c.bytes-key.ensures ∙ key_is front at b (at + 15) c.read_head-head.result.key_len refl k in
    let value : c.bytes-value.result.now ≡ bytes_in m.op = c.bytes-value.ensures ∙ value_is front at b (at + 15 + c.read_head-head.result.key_len) c.read_head-head.result.value_len (omega arith) l in
    let op : op_of c.op_with.result ≡ m.op = c.op_with.ensures ∙ (λ j. op_by (t j) (value j)) ∙ op_is m.op in
    record {
      is_of_tenant = subst IsOfTenant (sym key) b.is_message.is_of_tenant;
      is_numbered = subst (λ j. (1 ≤ j) × (j ≤ number_limit)) (sym n) b.is_message.is_numbered;
      is_short = subst (λ o. length (bytes_in o) ≤ value_limit) (sym op) b.is_message.is_short;
    }

pub returns : goal.returns
returns g c =
    let front = c.args.raw.now.front in let at = c.args.at in let b = c.requires.begins in let m = there front at b in
    let hs = c.bytes.result.now in let e = c.bytes.ensures in let k = c.read_head-head.ensures.key_len ∙ key_len_is front at b hs e in let n = c.read_head-head.ensures.number ∙ number_is front at b hs e in let t = c.read_head-head.ensures.kind ∙ kind_is front at b hs e in let l = c.read_head-head.ensures.value_len ∙ value_len_is front at b hs e in
    let key : c.from_packed.result.bytes.now ≡ m.key = c.from_packed.ensures ∙ c.bytes-key.ensures ∙ key_is front at b (at + 15) c.read_head-head.result.key_len refl k in
    let value : c.bytes-value.result.now ≡ bytes_in m.op = c.bytes-value.ensures ∙ value_is front at b (at + 15 + c.read_head-head.result.key_len) c.read_head-head.result.value_len (omega arith) l in
    let op : op_of c.op_with.result ≡ m.op = c.op_with.ensures ∙ (λ j. op_by (t j) (value j)) ∙ op_is m.op in
    (λ j. record { key = key j; number = n j; op = op j }) ∙ sym (read_is front at b)

pub overflow_add-at : goal.overflow_add-at
overflow_add-at g c =
    let front = c.args.raw.now.front in let at = c.args.at in let b = c.requires.begins in
    record { fits = omega (arith, room front at b, c.requires.small) }

pub overflow_add-at-2 : goal.overflow_add-at-2
overflow_add-at-2 g c =
    let front = c.args.raw.now.front in let at = c.args.at in let b = c.requires.begins in
    record { fits = omega (arith, room front at b, c.requires.small) }
