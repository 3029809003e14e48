-- Which keys are whose.
use Rattle.std.proofs.Common.{◌≡◌, ℕ, ◌<◌, ◌^◌, List, [], ◌∷◌, ◌++◌, map, refl, ap, sym, ◌∙◌}
use Rattle.stow_core.specs.Keys.{AreKeysOf}
use Rattle.stow_tree_model.specs.Keys.{packed, own_key, tenant_of}
use Rattle.stow_tree_model.proofs.Packed.{tenant_of-packed}

pub own_keys : (t : ℕ) (ks : List (List ℕ)) → map own_key (map (packed t) ks) ≡ ks
own_keys t [] = refl
own_keys t (k ∷ ks) = ap (λ l. k ∷ l) (own_keys t ks)

-- what is packed is the tenant's
pub packed_AreKeysOf : (t : ℕ) (ks : List (List ℕ)) → AreKeysOf t (map (packed t) ks)
packed_AreKeysOf t ks = ap (map (packed t)) (own_keys t ks)

head_or : List ℕ → List (List ℕ) → List ℕ
head_or d [] = d
head_or d (k ∷ ks) = k

tail_of : List (List ℕ) → List (List ℕ)
tail_of [] = []
tail_of (k ∷ ks) = ks

pub first_own : (t : ℕ) (k : List ℕ) (ks : List (List ℕ)) → AreKeysOf t (k ∷ ks) → packed t (own_key k) ≡ k
unfolding head_or
first_own t k ks own = ap (head_or k) own

pub later_own : (t : ℕ) (k : List ℕ) (ks : List (List ℕ)) → AreKeysOf t (k ∷ ks) → AreKeysOf t ks
unfolding tail_of
later_own t k ks own = ap tail_of own

-- one key of the tenant's more
pub one_more_own : (t : ℕ) (keys : List (List ℕ)) (k : List ℕ) → AreKeysOf t keys → packed t (own_key k) ≡ k → AreKeysOf t (keys ++ k ∷ [])
one_more_own t [] k own is = ap (λ x. x ∷ []) is
one_more_own t (key ∷ keys) k own is = λ i. first_own t key keys own i ∷ one_more_own t keys k (later_own t key keys own) is i

-- whose key it is
pub tenant_of_own : (t : ℕ) (key : List ℕ) → t < 2 ^ 32 → packed t (own_key key) ≡ key → tenant_of key ≡ t
tenant_of_own t key low is = ap tenant_of (sym is) ∙ tenant_of-packed t (own_key key) low
