-- One more message is folded.
use Rattle.std.proofs.Common.{◌≡◌, ◌≢◌, ℕ, zero, suc, ◌+◌, ◌<◌, ◌≤◌, Bool, true, false, List, [], ◌∷◌, ◌++◌, length, take, reverse, get_or, Option, Some, None, refl, ap, ◌∙◌, sym, subst, arith, ⊎_elim}
use Rattle.std.specs.Prelude.{if◌then◌else◌, ◌&&◌, ◌||◌, not, map, is_some, slice_get}
use Rattle.std.specs.List.{AllByRecursion}
use Rattle.std.specs.declared.cmp.Ordering.TheVariants.{Less}
use Rattle.std.proofs.lemmas.Bool.{and_left}
use Rattle.std.proofs.lemmas.List.{reverse-append, take_more}
use Rattle.std.specs.List.Sorted.{IsStrictlySortedBy}
use Rattle.std.specs.List.{list_any}
use Rattle.stow_tree_model.specs.TreeMessage.{TreeMessage}
use Rattle.stow_tree_model.specs.Version.{Version}
use Rattle.stow_tree_model.specs.Order.{VersionPlace, place_cmp, place_of, version_place}
use Rattle.stow_tree_model.specs.Operations.{outcome}
use Rattle.stow_tree_model.specs.Messages.{value}
use Rattle.stow_tree_model.specs.Agreement.{TenantPins}
use Rattle.stow_tree_model.specs.Merged.{same_key, begins_with, value_of, is_pin_within, is_kept, version_at, kept, begins_with_version, trimmed}
use Rattle.std.specs.Prelude.{nat_le, nat_lt, ◌==◌}
use Rattle.stow_tree_model.specs.declared.pin.Pin.{Pin}
use Rattle.stow_tree_model.specs.Pin.{pins_of}
use Rattle.stow_tree_model.proofs.Falling.{IsHistory}
use Rattle.stow_tree_model.proofs.Orders.{key_cases}
use Rattle.stow_tree_model.proofs.Ordered.{history_of}
use Rattle.stow_tree_model.proofs.Histories.{OtherKey, no_more, kept_all, value_of-step}

-- whether a version of the newest's key is kept
unfoldable pub has_kept : TenantPins → Option TreeMessage → List TreeMessage → Bool
has_kept pins newer [] = false
has_kept pins newer (m ∷ older) = begins_with_version m.key (kept pins newer (m ∷ older))

-- the history of messages so far has been folded
pub record Folded (pins : TenantPins) (newer : Option TreeMessage) (done : List TreeMessage) (value : Option (List ℕ)) (has_older : Bool) (versions : List Version) : Type 0 where
  pub value_is : value ≡ value_of done
  pub has_older_is : has_older ≡ has_kept pins newer done
  pub versions_are : versions ≡ reverse (trimmed (kept pins newer done))

begins_none : (vs : List Version) (key : List ℕ) → OtherKey key (map version_place vs) → begins_with_version key vs ≡ false
begins_none [] key h = refl
begins_none (v ∷ vs) key h = ⊎_elim
    (λ (e : (key ≡ v.key) × (same_key key v.key ≡ true)). absurd (h.0 e.0))
    (λ (e : (key ≢ v.key) × (same_key key v.key ≡ false)). e.1)
    (key_cases key v.key)

-- whether an older version of the key is kept
older_kept : (pins : TenantPins) (m : TreeMessage) (done : List TreeMessage) → IsHistory (m ∷ done) → begins_with_version m.key (kept pins (Some m) done) ≡ (begins_with m.key done && has_kept pins (Some m) done)
unfolding kept has_kept
older_kept pins m [] h = refl
older_kept pins m (x ∷ done) h = ⊎_elim
    (λ (e : (m.key ≡ x.key) × (same_key m.key x.key ≡ true)).
    ap (λ k. begins_with_version k (kept pins (Some m) (x ∷ done))) e.0
    ∙ ap (λ b. b && begins_with_version x.key (kept pins (Some m) (x ∷ done))) (sym e.1))
    (λ (e : (m.key ≢ x.key) × (same_key m.key x.key ≡ false)).
    begins_none (kept pins (Some m) (x ∷ done)) m.key (kept_all (λ q. m.key ≢ q.0) pins (Some m) (x ∷ done) (no_more m.key m.number (place_of x) (map place_of done) h.0.0 e.0 h.1.0))
    ∙ sym (and_left (same_key m.key x.key) (begins_with_version x.key (kept pins (Some m) (x ∷ done))) e.1))
    (key_cases m.key x.key)

same_key_itself : (k : List ℕ) → same_key k k ≡ true
same_key_itself k = ⊎_elim
    (λ (e : (k ≡ k) × (same_key k k ≡ true)). e.1)
    (λ (e : (k ≢ k) × (same_key k k ≡ false)). absurd (e.0 refl))
    (key_cases k k)

has_more : (b : Bool) (m : TreeMessage) (v : Option (List ℕ)) (rest : List Version) (has : Bool) → begins_with_version m.key rest ≡ has → (b || has) ≡ begins_with_version m.key (if b then version_at m v ∷ rest else rest)
has_more true m v rest has e = sym (same_key_itself m.key)
has_more false m v rest has e = sym e

trim_more : (b has : Bool) (m : TreeMessage) (v : Option (List ℕ)) (rest versions : List Version) → begins_with_version m.key rest ≡ has → versions ≡ reverse (trimmed rest)
    → (if b && (has || is_some v) then versions ++ version_at m v ∷ [] else versions) ≡ reverse (trimmed (if b then version_at m v ∷ rest else rest))
unfolding trimmed
trim_more false has m v rest versions e is = is
trim_more true true m None rest versions e is = ap (λ vs. vs ++ version_at m None ∷ []) is ∙ sym (reverse-append (version_at m None ∷ []) (trimmed rest)) ∙ ap reverse (sym (ap (λ h. if not h then trimmed rest else version_at m None ∷ trimmed rest) e))
trim_more true true m (Some x) rest versions e is = ap (λ vs. vs ++ version_at m (Some x) ∷ []) is ∙ sym (reverse-append (version_at m (Some x) ∷ []) (trimmed rest))
trim_more true false m None rest versions e is = is ∙ ap reverse (sym (ap (λ h. if not h then trimmed rest else version_at m None ∷ trimmed rest) e))
trim_more true false m (Some x) rest versions e is = ap (λ vs. vs ++ version_at m (Some x) ∷ []) is ∙ sym (reverse-append (version_at m (Some x) ∷ []) (trimmed rest))

pub fold_step : (pins : TenantPins) (newer : Option TreeMessage) (m : TreeMessage) (done : List TreeMessage) (value value' : Option (List ℕ)) (has_older has is : Bool) (versions versions' : List Version)
    → IsHistory (m ∷ done)
    → Folded pins (Some m) done value has_older versions
    → value' ≡ outcome m.op (if begins_with m.key done then value else None)
    → has ≡ (begins_with m.key done && has_older)
    → is ≡ is_kept pins newer m
    → versions' ≡ (if is && (has || is_some value') then versions ++ version_at m value' ∷ [] else versions)
    → Folded pins newer (m ∷ done) value' (is || has) versions'
unfolding kept has_kept
fold_step pins newer m done value value' has_older has is versions versions' h f e_value e_has e_is e_versions =
    let v : value' ≡ value_of (m ∷ done) = e_value ∙ ap (λ x. outcome m.op (if begins_with m.key done then x else None)) f.value_is ∙ sym (value_of-step m done) in
    let begun : begins_with_version m.key (kept pins (Some m) done) ≡ has = older_kept pins m done h ∙ ap (λ b. begins_with m.key done && b) (sym f.has_older_is) ∙ sym e_has in
    record {
      value_is = v;
      has_older_is = has_more is m (value_of (m ∷ done)) (kept pins (Some m) done) has begun ∙ ap (λ b. begins_with_version m.key (if b then version_at m (value_of (m ∷ done)) ∷ kept pins (Some m) done else kept pins (Some m) done)) e_is;
      versions_are = e_versions ∙ trim_more is has m value' (kept pins (Some m) done) versions begun f.versions_are
          ∙ (λ i. reverse (trimmed (if e_is i then version_at m (v i) ∷ kept pins (Some m) done else kept pins (Some m) done)));
    }

pub fold_none : (pins : TenantPins) (newer : Option TreeMessage) → Folded pins newer [] None false []
unfolding value_of has_kept trimmed kept
fold_none pins newer = record { value_is = refl; has_older_is = refl; versions_are = refl }

-- ---- in a slice

all_take : (P : VersionPlace → Type 0) (ms : List TreeMessage) (i : ℕ) → AllByRecursion P (map place_of ms) → AllByRecursion P (map place_of (take i ms))
all_take P ms zero h = tt
all_take P [] (suc i) h = h
all_take P (m ∷ ms) (suc i) h = (h.0, all_take P ms i h.1)

pub rises_take : (ms : List TreeMessage) (i : ℕ) → IsStrictlySortedBy place_cmp (map place_of ms) → IsStrictlySortedBy place_cmp (map place_of (take i ms))
unfolding IsStrictlySortedBy
rises_take ms zero h = tt
rises_take [] (suc i) h = h
rises_take (m ∷ ms) (suc i) h = (all_take (λ q. place_cmp (place_of m) q ≡ Less) ms i h.0, rises_take ms i h.1)

pub one_more : (ms : List TreeMessage) (i : ℕ) (m : TreeMessage) → i < length ms → m ≡ get_or ms i m → reverse (take (i + 1) ms) ≡ m ∷ reverse (take i ms)
one_more ms i m l e = ap reverse (take_more ms i m l) ∙ reverse-append (take i ms) (get_or ms i m ∷ []) ∙ ap (λ x. x ∷ reverse (take i ms)) (sym e)

pub got : (ms : List TreeMessage) (i : ℕ) (m : TreeMessage) → i < length ms → slice_get ms i ≡ Some (get_or ms i m)
got [] i m l = absurd (omega arith)
got (x ∷ ms) zero m l = refl
got (x ∷ ms) (suc i) m l = got ms i m (omega arith)

pub loop_step : (joined : List TreeMessage) (i : ℕ) (pins : TenantPins) (m : TreeMessage) (value value' : Option (List ℕ)) (has_older has is : Bool) (versions versions' : List Version)
    → IsStrictlySortedBy place_cmp (map place_of joined) → i < length joined → m ≡ get_or joined i m
    → Folded pins (slice_get joined i) (reverse (take i joined)) value has_older versions
    → value' ≡ outcome m.op (if begins_with m.key (reverse (take i joined)) then value else None)
    → has ≡ (begins_with m.key (reverse (take i joined)) && has_older)
    → is ≡ is_kept pins (slice_get joined (i + 1)) m
    → versions' ≡ (if is && (has || is_some value') then versions ++ version_at m value' ∷ [] else versions)
    → Folded pins (slice_get joined (i + 1)) (reverse (take (i + 1) joined)) value' (is || has) versions'
loop_step joined i pins m value value' has_older has is versions versions' rises l e f e_value e_has e_is e_versions =
    let at : reverse (take (i + 1) joined) ≡ m ∷ reverse (take i joined) = one_more joined i m l e in
    let falls : IsHistory (m ∷ reverse (take i joined)) = subst IsHistory at (history_of (take (i + 1) joined) (rises_take joined (i + 1) rises)) in
    let newest : slice_get joined i ≡ Some m = got joined i m l ∙ ap (λ x. Some x) (sym e) in
    subst (λ d. Folded pins (slice_get joined (i + 1)) d value' (is || has) versions') (sym at)
    (fold_step pins (slice_get joined (i + 1)) m (reverse (take i joined)) value value' has_older has is versions versions' falls
    (subst (λ n. Folded pins n (reverse (take i joined)) value has_older versions) newest f) e_value e_has e_is e_versions)

pub slice_past : (ms : List TreeMessage) (i : ℕ) → length ms ≤ i → slice_get ms i ≡ None
slice_past [] i l = refl
slice_past (m ∷ ms) zero l = absurd (omega arith)
slice_past (m ∷ ms) (suc i) l = slice_past ms i (omega arith)

-- ---- pins in a list

pub list_any-pins : (pins : List Pin) (tenant from to : ℕ) → list_any (λ p. (p.tenant == tenant) && (nat_le from p.number && nat_lt p.number to)) pins ≡ is_pin_within (pins_of pins tenant) from to
list_any-pins [] tenant from to = refl
list_any-pins (p ∷ pins) tenant from to = elim (p.tenant == tenant) as (λ b. ((b && (nat_le from p.number && nat_lt p.number to)) || list_any (λ q. (q.tenant == tenant) && (nat_le from q.number && nat_lt q.number to)) pins) ≡ is_pin_within (if b then p.number ∷ pins_of pins tenant else pins_of pins tenant) from to) [
  | true ↦ ap (λ o. (nat_le from p.number && nat_lt p.number to) || o) (list_any-pins pins tenant from to)
  | false ↦ list_any-pins pins tenant from to
]
