-- Marks of versions' keys.
use Rattle.std.proofs.Common.{◌≡◌, ℕ, true, false, List, length, ap, sym, ◌∙◌, None}
use Rattle.std.proofs.lemmas.Bool.{true≢false}
use Rattle.stow_filter.specs.Filter.{may_have}
use Rattle.stow_filter.proofs.Covered.{none_covers, covers_at}
use Rattle.stow_tree_model.specs.Version.{Version}
use Rattle.stow_page.specs.Rows.{CoversRows, version_at, is_up_to}
use Rattle.stow_page.proofs.Looked.{last_none, other_key}

-- without words each version's key may be there
pub none_marked : (marks : List ℕ) (rows : List Version) → length marks ≡ 0 → CoversRows marks rows
none_marked = none_covers (λ v. v.key)

-- where nothing is known of it, nothing is to be shown
pub not_known : {X : Type 0} → false ≡ true → X
not_known e = absurd (true≢false (sym e))

-- a key whose marks are missing has no version
pub unmarked : (marks : List ℕ) (rows : List Version) (key : List ℕ) (number : ℕ) → CoversRows marks rows → may_have marks key ≡ false → None ≡ version_at rows key number
unfolding version_at
unmarked marks rows key number c h = sym (last_none (is_up_to key number) rows (λ i v e.
    other_key key number v (λ same. true≢false (sym (covers_at (λ (w : Version). w.key) marks rows i v c e) ∙ ap (may_have marks) same ∙ h))))
