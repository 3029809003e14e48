-- What is known of versions that were noted, one after another.
use Rattle.std.proofs.Common.{◌≡◌, ◌≢◌, ℕ, ◌+◌, ◌<◌, Bool, true, false, List, take, sym, ap, ◌∙◌, arith, ⊎_elim, ◌⊎◌, subst, refl, Option, Some, None}
use Rattle.std.specs.Option.{unwrap_or, is_some, IsSome}
use Rattle.std.specs.Borrow.{Bor}
use Rattle.stow_tree_model.specs.Value.{bytes_at}
use Rattle.std.specs.List.{slice_get}
use Rattle.std.proofs.lemmas.Bool.{cases_order}
use Rattle.stow_tree_model.specs.Version.{Version}
use Rattle.stow_page.specs.Rows.{CoversRows}
use Rattle.stow_page.proofs.Marked.{not_known}

-- the first ones are marked, and values of different keys if that is known; the last one's key is none of which it is known so
pub record Noting (rows : List Version) (index : ℕ) (marks : List ℕ) (alone : Bool) (IsOther : List ℕ → Type 0) : Type 0 where
  pub covers : CoversRows marks (take index rows)
  pub values : alone ≡ true → (i : ℕ) (v : Version) → i < index → slice_get rows i ≡ Some v → IsSome v.value
  pub seen : alone ≡ true → (i : ℕ) (v w : Version) → i + 1 < index → slice_get rows i ≡ Some v → slice_get rows (i + 1) ≡ Some w → v.key ≢ w.key
  pub last : (i : ℕ) (v : Version) → i + 1 ≡ index → slice_get rows i ≡ Some v → (key : List ℕ) → IsOther key → v.key ≢ key

same_version : (rows : List Version) (i j : ℕ) (v w : Version) → i ≡ j → slice_get rows i ≡ Some v → slice_get rows j ≡ Some w → v ≡ w
same_version rows i j v w same e f = ap (λ o. unwrap_or o v) (sym e ∙ ap (slice_get rows) same ∙ f)

next_last : (rows : List Version) (index : ℕ) (v : Version) (key : List ℕ) → slice_get rows index ≡ Some v → key ≡ v.key
    → (i : ℕ) (w : Version) → i + 1 ≡ index + 1 → slice_get rows i ≡ Some w → (other : List ℕ) → key ≢ other → w.key ≢ other
next_last rows index v key e is i w at f other ne same = ne (is ∙ ap (λ (x : Version). x.key) (sym (same_version rows i index w v (omega (arith, at)) f e)) ∙ same)

-- one more, of another key than the last one
pub next_noted : (rows : List Version) (index : ℕ) (marks marks' : List ℕ) (alone alone' : Bool) (IsOther : List ℕ → Type 0) (v : Version) (key : List ℕ) → slice_get rows index ≡ Some v → key ≡ v.key → CoversRows marks' (take (index + 1) rows)
    → Noting rows index marks alone IsOther → IsOther key → (alone' ≡ true → (alone ≡ true) × IsSome v.value) → Noting rows (index + 1) marks' alone' (λ other. key ≢ other)
next_noted rows index marks marks' alone alone' IsOther v key e is covers n other more = record {
  covers = covers;
  values = λ a i x low f. ⊎_elim
      (λ (at : i ≡ index). subst (λ (y : Version). IsSome y.value) (same_version rows index i v x (sym at) e f) (more a).1)
      (λ (c : (i < index) ⊎ (index < i)). ⊎_elim
      (λ (before : i < index). n.values (more a).0 i x before f)
      (λ (behind : index < i). absurd (omega (arith, low, behind)))
      c)
      (cases_order i index);
  seen = λ a i x w low f g. ⊎_elim
      (λ (at : i + 1 ≡ index). λ (same : x.key ≡ w.key). n.last i x at f key other (same ∙ ap (λ (y : Version). y.key) (same_version rows (i + 1) index w v at g e) ∙ sym is))
      (λ (c : (i + 1 < index) ⊎ (index < i + 1)). ⊎_elim
      (λ (before : i + 1 < index). n.seen (more a).0 i x w before f g)
      (λ (behind : index < i + 1). absurd (omega (arith, low, behind)))
      c)
      (cases_order (i + 1) index);
  last = next_last rows index v key e is;
}

-- one more, of which nothing is known
pub more_noted : (rows : List Version) (index : ℕ) (marks' : List ℕ) (v : Version) (key : List ℕ) → slice_get rows index ≡ Some v → key ≡ v.key → CoversRows marks' (take (index + 1) rows) → Noting rows (index + 1) marks' false (λ other. key ≢ other)
more_noted rows index marks' v key e is covers = record { covers = covers; values = not_known; seen = not_known; last = next_last rows index v key e is }

-- a lent value is one
pub lent_is_some : (value : Option (Bor (List ℕ))) → is_some value ≡ true → IsSome (bytes_at value)
lent_is_some None e = e
lent_is_some (Some value) e = refl
