-- Whether a version of a leaf stands at a message's key and number.
use Rattle.std.proofs.Common.{◌≡◌, ◌≢◌, ℕ, ◌-◌, ◌<◌, true, false, List, map, get_or, sym, ap, ◌∙◌, subst, arith, ⊎_elim, ◌⊎◌, Some}
use Rattle.std.specs.Option.{option_map, unwrap_or}
use Rattle.std.specs.List.{slice_get}
use Rattle.std.specs.Cmp.{tied_itself}
use Rattle.std.specs.Ordering.{is_eq, is_lt, eq_by_cmp}
use Rattle.std.specs.declared.cmp.Ordering.TheVariants.{Less}
use Rattle.std.proofs.lemmas.Bool.{cases_order, true≢false}
use Rattle.std.proofs.lemmas.List.Elements.{All-map}
use Rattle.std.proofs.lemmas.Option.{slice_get_within, slice_get-map, slice_get-get_or, get_or_from_slice_get}
use Rattle.stow_message.specs.Rising.{IsNew}
use Rattle.stow_page.specs.Rows.{IsCountUpTo}
use Rattle.stow_page.proofs.Looked.{versions_rise_at}
use Rattle.stow_page.specs.StowTreeModel.Merged.{row_message}
use Rattle.stow_page.specs.StowTreeModel.Order.{VersionPlace, place_cmp, place_of, version_place, VersionsRise}
use Rattle.stow_page.specs.StowTreeModel.TreeMessage.{TreeMessage}
use Rattle.stow_page.specs.StowTreeModel.Version.{Version}
use Rattle.stow_page.proofs.StowTreeModel.Orders.{place_total, place_cases}

-- a version above a place, or below one that is not above it, doesn't stand there
above_elsewhere : (place at : VersionPlace) → is_lt (place_cmp place at) ≡ true → at ≢ place
above_elsewhere place at h e = true≢false (sym h ∙ ap (λ p. is_lt (place_cmp place p)) e ∙ ap is_lt (tied_itself place_total place))

below_elsewhere : (place at next : VersionPlace) → is_lt (place_cmp place next) ≡ false → place_cmp at next ≡ Less → at ≢ place
below_elsewhere place at next h l e = true≢false (sym (ap is_lt (sym (ap (λ p. place_cmp p next) e) ∙ l)) ∙ h)

-- where no version stands at a message's place, the message is new
new_elsewhere : (rows : List Version) (m : TreeMessage) → ((i : ℕ) (v : Version) → slice_get rows i ≡ Some v → version_place v ≢ place_of m) → IsNew m (map row_message rows)
new_elsewhere rows m elsewhere =
    All-map (λ n. is_eq (place_cmp (place_of n) (place_of m)) ≡ false) row_message rows (λ i d l. other i (get_or rows i d) (slice_get-get_or rows i d l))
  where
    other : (i : ℕ) (v : Version) → slice_get rows i ≡ Some v → is_eq (place_cmp (version_place v) (place_of m)) ≡ false
    other i v e = ⊎_elim
        (λ (h : (version_place v ≡ place_of m) × (eq_by_cmp place_cmp (version_place v) (place_of m) ≡ true)). absurd (elsewhere i v e h.0))
        (λ (h : (version_place v ≢ place_of m) × (eq_by_cmp place_cmp (version_place v) (place_of m) ≡ false)). h.1)
        (place_cases (version_place v) (place_of m))

pub new_by_none : (rows : List Version) (m : TreeMessage) (count : ℕ) → IsCountUpTo rows (place_of m) count → count ≡ 0 → IsNew m (map row_message rows)
new_by_none rows m count up none = new_elsewhere rows m (λ i v e. above_elsewhere (place_of m) (version_place v) (up.above i v (omega arith) e))

-- where the last version up to a message's place doesn't stand there, none does
pub new_by_last : (rows : List Version) (m : TreeMessage) (count : ℕ) (last : Version) → VersionsRise rows → IsCountUpTo rows (place_of m) count → count ≢ 0 → slice_get rows (count - 1) ≡ Some last → version_place last ≢ place_of m → IsNew m (map row_message rows)
new_by_last rows m count last rise up some at_last ne = new_elsewhere rows m elsewhere
  where
    elsewhere : (i : ℕ) (v : Version) → slice_get rows i ≡ Some v → version_place v ≢ place_of m
    elsewhere i v e = ⊎_elim
        (λ (h : i ≡ count - 1). subst (λ w. version_place w ≢ place_of m) (ap (λ o. unwrap_or o last) (sym at_last ∙ ap (slice_get rows) (sym h) ∙ e)) ne)
        (λ (c : (i < count - 1) ⊎ (count - 1 < i)). ⊎_elim
        (λ (h : i < count - 1). below_elsewhere (place_of m) (version_place v) (version_place last) (up.up_to (count - 1) last (omega arith) at_last) (versions_rise_at rows i (count - 1) v last rise h e at_last))
        (λ (h : count - 1 < i). above_elsewhere (place_of m) (version_place v) (up.above i v (omega arith) e))
        c)
        (cases_order i (count - 1))

-- a new message's place is no version's
pub new_is_elsewhere : (rows : List Version) (m : TreeMessage) (i : ℕ) (v : Version) → slice_get rows i ≡ Some v → IsNew m (map row_message rows) → is_eq (place_cmp (version_place v) (place_of m)) ≡ false
new_is_elsewhere rows m i v e new =
    let at : slice_get (map row_message rows) i ≡ Some (row_message v) = slice_get-map row_message rows i ∙ ap (option_map row_message) e in
    subst (λ n. is_eq (place_cmp (place_of n) (place_of m)) ≡ false) (get_or_from_slice_get (map row_message rows) i (row_message v) (row_message v) at)
    (new i (row_message v) (slice_get_within (map row_message rows) i (row_message v) at))
