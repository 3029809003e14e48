-- A key packed from its tenant's index and its own bytes.
use Rattle.std.proofs.Common.{◌≡◌, ℕ, ◌+◌, ◌<◌, ◌≤◌, ◌^◌, List, [], ◌∷◌, get_or, length, refl, sym, ◌∙◌, ap, subst, arith, length-append}
use Rattle.std.proofs.Math.Seq.{take-append_seam, drop-append_seam}
use Rattle.std.proofs.lemmas.Nat.{from_be_bytes-to_be_bytes_4}
use Rattle.std.specs.Int.{to_be_bytes, from_be_bytes, w32}
use Rattle.stow_bytes.specs.Limits.{key_limit, tenant_limit}
use Rattle.stow_tree_model.specs.Keys.{packed, tenant_of, own_key, IsTenantKey}

pub length-index : (tenant : ℕ) → length (to_be_bytes w32 tenant) ≡ 4
length-index tenant = refl

pub length-packed : (tenant : ℕ) (key : List ℕ) → length (packed tenant key) ≡ 4 + length key
length-packed tenant key = length-append (to_be_bytes w32 tenant) key ∙ ap (λ n. n + length key) (length-index tenant)

pub tenant_of-packed : (tenant : ℕ) (key : List ℕ) → tenant < 2 ^ 32 → tenant_of (packed tenant key) ≡ tenant
unfolding tenant_of
tenant_of-packed tenant key h = ap (from_be_bytes w32) (take-append_seam (to_be_bytes w32 tenant) key) ∙ from_be_bytes-to_be_bytes_4 tenant h

pub own_key-packed : (tenant : ℕ) (key : List ℕ) → own_key (packed tenant key) ≡ key
own_key-packed tenant key = drop-append_seam (to_be_bytes w32 tenant) key

pub IsTenantKey-packed : (tenant : ℕ) (key : List ℕ) → tenant ≤ tenant_limit + 1 → length key ≤ key_limit → IsTenantKey (packed tenant key)
IsTenantKey-packed tenant key index short = record {
  has_index = subst (λ n. 4 ≤ n) (sym (length-packed tenant key)) (omega arith);
  is_short = subst (λ n. n ≤ 4 + key_limit) (sym (length-packed tenant key)) (omega arith);
  is_near = subst (λ t. t ≤ tenant_limit + 1) (sym (tenant_of-packed tenant key (omega arith))) index;
}

-- the index is in the first four bytes
pub tenant_of-bytes : (key : List ℕ) → 4 ≤ length key → from_be_bytes w32 (get_or key 0 0 ∷ get_or key 1 0 ∷ get_or key 2 0 ∷ get_or key 3 0 ∷ []) ≡ tenant_of key
unfolding tenant_of
tenant_of-bytes [] l = absurd (omega arith)
tenant_of-bytes (a ∷ []) l = absurd (omega arith)
tenant_of-bytes (a ∷ b ∷ []) l = absurd (omega arith)
tenant_of-bytes (a ∷ b ∷ c ∷ []) l = absurd (omega arith)
tenant_of-bytes (a ∷ b ∷ c ∷ d ∷ key) l = refl
