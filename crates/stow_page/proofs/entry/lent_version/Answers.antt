use Rattle.std.proofs.Common.{◌≡◌, ℕ, ◌≤◌, List, length, take, drop, sym, ◌∙◌, ap, subst, arith}
use Rattle.std.specs.Int.{from_be_bytes, w16, w64}
use Rattle.stow_tree_model.specs.StowBytes.Limits.{number_limit}
use Rattle.stow_tree_model.specs.Keys.{IsTenantKey, IsOfTenant}
use Rattle.stow_tree_model.specs.Value.{IsValue}
use Rattle.stow_page.specs.Rows.{version_in, value_in, after_key, IsTail}
use Rattle.stow_page.proofs.Entries.{parts_at}
use Rattle.stow_page.proofs.entry.lent_version.Goals as goal

pub u16_at_front-length-requires : goal.u16_at_front-length-requires
u16_at_front-length-requires c = let long = (parts_at _ _ _ c.requires).long in omega arith

pub split_at-requires : goal.split_at-requires
split_at-requires c = let long = (parts_at _ _ _ c.requires).long in omega arith

pub split_at-requires-2 : goal.split_at-requires-2
split_at-requires-2 c =
    let parts = parts_at _ _ _ c.requires in
    let long = parts.long in
    let back = c.split_at.ensures.back_len in
    let e : c.u16_at_front-length.result ≡ length (version_in c.args.format c.args.bytes.now).key = c.u16_at_front-length.ensures ∙ parts.key_length in
    omega arith

pub u64_at_front-number-requires : goal.u64_at_front-number-requires
u64_at_front-number-requires c =
    let parts = parts_at _ _ _ c.requires in
    let long = parts.long in
    let back = c.split_at.ensures.back_len in
    let later = c.split_at-2.ensures.back_len in
    let e : c.u16_at_front-length.result ≡ length (version_in c.args.format c.args.bytes.now).key = c.u16_at_front-length.ensures ∙ parts.key_length in
    omega arith

pub split_at-requires-3 : goal.split_at-requires-3
split_at-requires-3 c =
    let parts = parts_at _ _ _ c.requires in
    let long = parts.long in
    let back = c.split_at.ensures.back_len in
    let later = c.split_at-2.ensures.back_len in
    let e : c.u16_at_front-length.result ≡ length (version_in c.args.format c.args.bytes.now).key = c.u16_at_front-length.ensures ∙ parts.key_length in
    omega arith

after_is : (bytes rest after : List ℕ) (n : ℕ) → n ≡ from_be_bytes w16 bytes → rest ≡ drop 2 bytes → after ≡ drop n rest → after ≡ after_key bytes
after_is bytes rest after n e r a = a ∙ (λ i. drop (e i) (r i))

key_is : (bytes rest key : List ℕ) (n : ℕ) → n ≡ from_be_bytes w16 bytes → rest ≡ drop 2 bytes → key ≡ take n rest → key ≡ take (from_be_bytes w16 bytes) (drop 2 bytes)
key_is bytes rest key n e r a = a ∙ (λ i. take (e i) (r i))

pub lent_value-requires : goal.lent_value-requires
lent_value-requires c =
    let parts = parts_at _ _ _ c.requires in
    let after = after_is c.args.bytes.now _ _ _ c.u16_at_front-length.ensures c.split_at.ensures.back c.split_at-2.ensures.back in
    let tail : drop 8 (after_key c.args.bytes.now) ≡ c.split_at-3.result.1.now = sym (c.split_at-3.ensures.back ∙ ap (drop 8) after) in
    let value : (version_in c.args.format c.args.bytes.now).value ≡ value_in c.args.format c.split_at-3.result.1.now = sym parts.value ∙ ap (value_in c.args.format) tail in
    subst (λ v. IsTail c.args.format v c.split_at-3.result.1.now) value (subst (IsTail c.args.format (version_in c.args.format c.args.bytes.now).value) tail parts.tail_at)

pub invariant_of-result : goal.invariant_of-result
invariant_of-result c =
    let parts = parts_at _ _ _ c.requires in
    let key = key_is c.args.bytes.now _ _ _ c.u16_at_front-length.ensures c.split_at.ensures.back c.split_at-2.ensures.front ∙ parts.key in
    record { is_key = subst IsTenantKey (sym key) c.requires.is_version.is_key }

pub invariant_of-result-2 : goal.invariant_of-result-2
invariant_of-result-2 c =
    let parts = parts_at _ _ _ c.requires in
    let after = after_is c.args.bytes.now _ _ _ c.u16_at_front-length.ensures c.split_at.ensures.back c.split_at-2.ensures.back in
    let key = key_is c.args.bytes.now _ _ _ c.u16_at_front-length.ensures c.split_at.ensures.back c.split_at-2.ensures.front ∙ parts.key in
    let number = c.u64_at_front-number.ensures ∙ ap (from_be_bytes w64) after ∙ parts.number in
    let tail = c.split_at-3.ensures.back ∙ ap (drop 8) after in
    let value = c.lent_value.ensures ∙ ap (value_in c.args.format) tail ∙ parts.value in
    record {
      is_of_tenant = subst IsOfTenant (sym key) c.requires.is_version.is_of_tenant;
      is_numbered = (subst (λ n. 1 ≤ n) (sym number) c.requires.is_version.is_numbered.0, subst (λ n. n ≤ number_limit) (sym number) c.requires.is_version.is_numbered.1);
      is_short = subst IsValue (sym value) c.requires.is_version.is_short;
    }

pub returns : goal.returns
unfolding version_in
returns c =
    let parts = parts_at _ _ _ c.requires in
    let after = after_is c.args.bytes.now _ _ _ c.u16_at_front-length.ensures c.split_at.ensures.back c.split_at-2.ensures.back in
    let key = key_is c.args.bytes.now _ _ _ c.u16_at_front-length.ensures c.split_at.ensures.back c.split_at-2.ensures.front in
    let number = c.u64_at_front-number.ensures ∙ ap (from_be_bytes w64) after in
    let value = c.lent_value.ensures ∙ ap (value_in c.args.format) (c.split_at-3.ensures.back ∙ ap (drop 8) after) in
    λ i. record { key = key i; number = number i; value = value i }
