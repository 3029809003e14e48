-- Keys of all tenants stand in the order of the tenants' indexes, and those of one tenant in byte order.
use Rattle.std.proofs.Common.{◌≡◌, ℕ, zero, suc, ◌+◌, ◌*◌, ◌/◌, ◌%◌, ◌<◌, ◌≤◌, List, [], ◌∷◌, ◌++◌, refl, ap, ◌∙◌, sym, subst, arith, ⊎_elim, ◌⊎◌, length, get_or, take, drop}
use Rattle.std.specs.declared.cmp.Ordering.{Ordering}
use Rattle.std.specs.declared.cmp.Ordering.TheVariants.{Less, Equal, Greater}
use Rattle.std.specs.Ordering.{nat_cmp, ordering_then}
use Rattle.std.specs.Int.{from_be_bytes, w32}
use Rattle.std.proofs.lemmas.Bool.{cases_order}
use Rattle.std.proofs.lemmas.List.{take-append-drop, length-take}
use Rattle.std.proofs.lemmas.Nat.{be_bytes_4}
use Rattle.stow_bytes.specs.Bytes.{bytes_cmp}
use Rattle.stow_bytes.specs.Limits.{tenant_limit}
use Rattle.stow_tree_model.specs.Keys.{packed, tenant_of, own_key, IsTenantKey}
use Rattle.stow_tree_model.specs.Intervals.{IsWithin, AreKeyBytes, PackedInOrder, TenantInterval}
use Rattle.stow_tree_model.proofs.Orders.{less_than, same_number, more_than}

then_assoc : (a b c : Ordering) → ordering_then (ordering_then a b) c ≡ ordering_then a (ordering_then b c)
then_assoc Less b c = refl
then_assoc Equal b c = refl
then_assoc Greater b c = refl

then3 : (b c d o : Ordering) → ordering_then (ordering_then b (ordering_then c d)) o ≡ ordering_then b (ordering_then c (ordering_then d o))
then3 Less c d o = refl
then3 Equal c d o = then_assoc c d o
then3 Greater c d o = refl

left4 : (a b c d : Ordering) → ordering_then (ordering_then (ordering_then a b) c) d ≡ ordering_then a (ordering_then b (ordering_then c d))
left4 Less b c d = refl
left4 Equal b c d = then_assoc b c d
left4 Greater b c d = refl

right5 : (a b c d o : Ordering) → ordering_then (ordering_then a (ordering_then b (ordering_then c d))) o ≡ ordering_then a (ordering_then b (ordering_then c (ordering_then d o)))
right5 Less b c d o = refl
right5 Equal b c d o = then3 b c d o
right5 Greater b c d o = refl

first_less : (a b c : Ordering) → a ≡ Less → c ≡ Less → c ≡ ordering_then a b
first_less a b c e f = f ∙ sym (ap (λ o. ordering_then o b) e)

first_more : (a b c : Ordering) → a ≡ Greater → c ≡ Greater → c ≡ ordering_then a b
first_more a b c e f = f ∙ sym (ap (λ o. ordering_then o b) e)

first_same : (a b c : Ordering) → a ≡ Equal → c ≡ b → c ≡ ordering_then a b
first_same a b c e f = f ∙ sym (ap (λ o. ordering_then o b) e)

-- two digits
two : (x y hi hi' lo lo' : ℕ) → lo < 256 → lo' < 256 → x ≡ 256 * hi + lo → y ≡ 256 * hi' + lo' → nat_cmp x y ≡ ordering_then (nat_cmp hi hi') (nat_cmp lo lo')
two x y hi hi' lo lo' p q ex ey = ⊎_elim
    (λ (e : hi ≡ hi'). first_same (nat_cmp hi hi') (nat_cmp lo lo') (nat_cmp x y) (ap (λ z. nat_cmp z hi') e ∙ same_number hi')
    (⊎_elim
    (λ (f : lo ≡ lo'). let s : x ≡ y = omega arith in ap (λ z. nat_cmp z y) s ∙ same_number y ∙ sym (ap (λ z. nat_cmp z lo') f ∙ same_number lo'))
    (λ (f : (lo < lo') ⊎ (lo' < lo)). ⊎_elim
    (λ (l : lo < lo'). less_than x y (omega arith) ∙ sym (less_than lo lo' l))
    (λ (l : lo' < lo). more_than x y (omega arith) ∙ sym (more_than lo lo' l))
    f)
    (cases_order lo lo')))
    (λ (f : (hi < hi') ⊎ (hi' < hi)). ⊎_elim
    (λ (l : hi < hi'). first_less (nat_cmp hi hi') (nat_cmp lo lo') (nat_cmp x y) (less_than hi hi' l) (less_than x y (omega arith)))
    (λ (l : hi' < hi). first_more (nat_cmp hi hi') (nat_cmp lo lo') (nat_cmp x y) (more_than hi hi' l) (more_than x y (omega arith)))
    f)
    (cases_order hi hi')

four : (t u : ℕ) → t < 4294967296 → u < 4294967296
    → nat_cmp t u ≡ ordering_then (nat_cmp (t / 16777216 % 256) (u / 16777216 % 256)) (ordering_then (nat_cmp (t / 65536 % 256) (u / 65536 % 256)) (ordering_then (nat_cmp (t / 256 % 256) (u / 256 % 256)) (nat_cmp (t % 256) (u % 256))))
four t u lt lu =
    let a = two t u (t / 256) (u / 256) (t % 256) (u % 256) (omega arith) (omega arith) (omega arith) (omega arith) in
    let b = two (t / 256) (u / 256) (t / 65536) (u / 65536) (t / 256 % 256) (u / 256 % 256) (omega arith) (omega arith) (omega arith) (omega arith) in
    let c = two (t / 65536) (u / 65536) (t / 16777216 % 256) (u / 16777216 % 256) (t / 65536 % 256) (u / 65536 % 256) (omega arith) (omega arith) (omega arith) (omega arith) in
    a ∙ ap (λ o. ordering_then o (nat_cmp (t % 256) (u % 256))) (b ∙ ap (λ o. ordering_then o (nat_cmp (t / 256 % 256) (u / 256 % 256))) c)
    ∙ left4 (nat_cmp (t / 16777216 % 256) (u / 16777216 % 256)) (nat_cmp (t / 65536 % 256) (u / 65536 % 256)) (nat_cmp (t / 256 % 256) (u / 256 % 256)) (nat_cmp (t % 256) (u % 256))

pub packed_in_order_law : PackedInOrder
packed_in_order_law t u a b lt lu =
    let o = bytes_cmp a b in
    sym (ap (λ x. ordering_then x o) (four t u (omega arith) (omega arith))
    ∙ right5 (nat_cmp (t / 16777216 % 256) (u / 16777216 % 256)) (nat_cmp (t / 65536 % 256) (u / 65536 % 256)) (nat_cmp (t / 256 % 256) (u / 256 % 256)) (nat_cmp (t % 256) (u % 256)) o)

-- ---- a tenant's interval

small : (key : List ℕ) (n : ℕ) → AreKeyBytes key → (i : ℕ) → get_or (take n key) i 0 < 256
small [] zero h i = omega arith
small [] (suc n) h i = omega arith
small (b ∷ key) zero h i = omega arith
small (b ∷ key) (suc n) h zero = h.0
small (b ∷ key) (suc n) h (suc i) = small key n h.1 i

-- a key is its tenant's index and the key that the tenant names
pub packed-parts : (key : List ℕ) → IsTenantKey key → AreKeyBytes key → packed (tenant_of key) (own_key key) ≡ key
unfolding tenant_of
packed-parts key is bytes =
    let has = is.has_index in
    let four_long : length (take 4 key) ≡ 4 = length-take 4 key ∙ omega arith in
    ap (λ x. x ++ drop 4 key) (be_bytes_4 (take 4 key) (from_be_bytes w32 (take 4 key)) four_long (small key 4 bytes) refl) ∙ take-append-drop 4 key

not_before_empty : (k : List ℕ) → bytes_cmp k [] ≡ Less → ⊥
not_before_empty [] e = cc
not_before_empty (x ∷ k) e = cc

own_within : (t : ℕ) (k : List ℕ) → t ≤ tenant_limit → IsWithin (packed t []) (packed (t + 1) []) (packed t k)
own_within t k near = (
  (λ e. not_before_empty k (ap (λ o. ordering_then o (bytes_cmp k [])) (sym (same_number t)) ∙ sym (packed_in_order_law t t k [] (omega arith) (omega arith)) ∙ e)),
  packed_in_order_law t (t + 1) k [] (omega arith) (omega arith) ∙ ap (λ o. ordering_then o (bytes_cmp k [])) (less_than t (t + 1) (omega arith)),
)

within_own : (t u : ℕ) (k : List ℕ) → t ≤ tenant_limit → u ≤ tenant_limit + 1 → IsWithin (packed t []) (packed (t + 1) []) (packed u k) → u ≡ t
within_own t u k near near_u w =
    let low = packed_in_order_law u t k [] (omega arith) (omega arith) in
    let high = packed_in_order_law u (t + 1) k [] (omega arith) (omega arith) in
    ⊎_elim
    (λ (e : u ≡ t). e)
    (λ (h : (u < t) ⊎ (t < u)). ⊎_elim
    (λ (l : u < t). absurd (w.0 (low ∙ ap (λ o. ordering_then o (bytes_cmp k [])) (less_than u t l))))
    (λ (l : t < u). ⊎_elim
    (λ (e : u ≡ t + 1). absurd (not_before_empty k (ap (λ o. ordering_then o (bytes_cmp k [])) (sym (ap (λ x. nat_cmp x (t + 1)) e ∙ same_number (t + 1))) ∙ sym high ∙ w.1)))
    (λ (g : (u < t + 1) ⊎ (t + 1 < u)). ⊎_elim
    (λ (b : u < t + 1). absurd (omega arith))
    (λ (b : t + 1 < u). absurd (let e : Greater ≡ Less = ap (λ o. ordering_then o (bytes_cmp k [])) (sym (more_than u (t + 1) b)) ∙ sym high ∙ w.1 in cc))
    g)
    (cases_order u (t + 1)))
    h)
    (cases_order u t)

pub tenant_interval_law : TenantInterval
tenant_interval_law t key near is bytes =
    let parts = packed-parts key is bytes in (
      (λ e. subst (IsWithin (packed t []) (packed (t + 1) [])) (ap (λ x. packed x (own_key key)) (sym e) ∙ parts) (own_within t (own_key key) near)),
      (λ w. within_own t (tenant_of key) (own_key key) near is.is_near (subst (IsWithin (packed t []) (packed (t + 1) [])) (sym parts) w)),
    )
