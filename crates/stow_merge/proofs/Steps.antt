-- A merge's step from one key to the next.
use Rattle.std.proofs.Common.{◌≡◌, ◌⊎◌, ℕ, zero, suc, ◌+◌, ◌<◌, ◌≤◌, List, [], ◌∷◌, ◌++◌, take, drop, Some, refl, ap, ◌∙◌, sym, subst, arith, ⊎_elim, inl, inr}
use Rattle.std.specs.Prelude.{Contains, slice_get}
use Rattle.std.specs.Cmp.Lexicographic.{nat_list_cmp_total}
use Rattle.std.specs.declared.cmp.Ordering.TheVariants.{Less}
use Rattle.std.proofs.lemmas.List.{take-append-drop}
use Rattle.std.proofs.lemmas.List.Elements.{Contains-append_cases}
use Rattle.stow_page.specs.StowBytes.Bytes.{bytes_cmp}
use Rattle.stow_page.specs.StowTreeModel.Agreement.{TenantPins}
use Rattle.stow_page.specs.StowTreeModel.Merged.{merged}
use Rattle.stow_page.specs.StowTreeModel.TreeMessage.{TreeMessage}
use Rattle.stow_page.specs.StowTreeModel.Version.{Version}
use Rattle.stow_page.proofs.StowTreeModel.Latest.{contains_cases}
use Rattle.stow_page.proofs.StowTreeModel.Pruning.{none_in_nothing}
use Rattle.stow_merge.proofs.KeyByKey.{keys_have, merges_apart}
use Rattle.stow_merge.proofs.Lists.{split_at}
use Rattle.stow_merge.proofs.Settled.{AreSettled, settled_take, merged_settled}

-- ---- what holds of items by their index

pub taken_have : {X : Type 0} (P : X → Type 0) (xs : List X) (at : ℕ) → ((i : ℕ) (x : X) → i < at → slice_get xs i ≡ Some x → P x) → (x : X) → Contains (take at xs) x → P x
taken_have P [] zero h x c = absurd (none_in_nothing x c)
taken_have P [] (suc at) h x c = absurd (none_in_nothing x c)
taken_have P (y ∷ xs) zero h x c = absurd (none_in_nothing x c)
taken_have P (y ∷ xs) (suc at) h x c = ⊎_elim
    (λ (e : y ≡ x). subst P e (h 0 y (omega arith) refl))
    (λ (t : Contains (take at xs) x). taken_have P xs at (λ i z l g. h (suc i) z (omega arith) g) x t)
    (contains_cases y x (take at xs) c)

pub dropped_have : {X : Type 0} (P : X → Type 0) (xs : List X) (at : ℕ) → ((i : ℕ) (x : X) → at ≤ i → slice_get xs i ≡ Some x → P x) → (x : X) → Contains (drop at xs) x → P x
dropped_have P [] zero h x c = absurd (none_in_nothing x c)
dropped_have P [] (suc at) h x c = absurd (none_in_nothing x c)
dropped_have P (y ∷ xs) zero h x c = ⊎_elim
    (λ (e : y ≡ x). subst P e (h 0 y (omega arith) refl))
    (λ (t : Contains xs x). dropped_have P xs zero (λ i z l g. h (suc i) z (omega arith) g) x t)
    (contains_cases y x xs c)
dropped_have P (y ∷ xs) (suc at) h x c = dropped_have P xs at (λ i z l g. h (suc i) z (omega arith) g) x c

pub between_have : {X : Type 0} (P : X → Type 0) (xs : List X) (from to : ℕ) → ((i : ℕ) (x : X) → from ≤ i → i < to → slice_get xs i ≡ Some x → P x) → (x : X) → Contains (drop from (take to xs)) x → P x
between_have P [] zero zero h x c = absurd (none_in_nothing x c)
between_have P [] zero (suc to) h x c = absurd (none_in_nothing x c)
between_have P [] (suc from) zero h x c = absurd (none_in_nothing x c)
between_have P [] (suc from) (suc to) h x c = absurd (none_in_nothing x c)
between_have P (y ∷ xs) zero to h x c = taken_have P (y ∷ xs) to (λ i z l g. h i z (omega arith) l g) x c
between_have P (y ∷ xs) (suc from) zero h x c = absurd (none_in_nothing x c)
between_have P (y ∷ xs) (suc from) (suc to) h x c = between_have P xs from to (λ i z l m g. h (suc i) z (omega arith) (omega arith) g) x c

-- ---- the step

-- of rows the first are below a key, some after them are of it, and the others above it, and of
-- messages the first are of it, and the others above it
pub record IsKeyNext (rows : List Version) (batch : List TreeMessage) (key : List ℕ) (before count messages : ℕ) : Type 0 where
  pub rows_below : (i : ℕ) (v : Version) → i < before → slice_get rows i ≡ Some v → bytes_cmp v.key key ≡ Less
  pub rows_of : (i : ℕ) (v : Version) → before ≤ i → i < before + count → slice_get rows i ≡ Some v → v.key ≡ key
  pub rows_above : (i : ℕ) (v : Version) → before + count ≤ i → slice_get rows i ≡ Some v → bytes_cmp key v.key ≡ Less
  pub messages_of : (i : ℕ) (m : TreeMessage) → i < messages → slice_get batch i ≡ Some m → m.key ≡ key
  pub messages_above : (i : ℕ) (m : TreeMessage) → messages ≤ i → slice_get batch i ≡ Some m → bytes_cmp key m.key ≡ Less

-- a key that isn't below another
abbrev IsFrom : List ℕ → List ℕ → Type 0
IsFrom key k = (key ≡ k) ⊎ (bytes_cmp key k ≡ Less)

from_on : (low key k : List ℕ) → bytes_cmp low key ≡ Less → IsFrom key k → bytes_cmp low k ≡ Less
from_on low key k l h = ⊎_elim
    (λ (e : key ≡ k). subst (λ x. bytes_cmp low x ≡ Less) e l)
    (λ (m : bytes_cmp key k ≡ Less). nat_list_cmp_total.trans low key k l m)
    h

one_more_key : (pins : TenantPins) (key : List ℕ) (first own above : List Version) (messages later : List TreeMessage) → AreSettled first
    → ((v : Version) → Contains first v → bytes_cmp v.key key ≡ Less) → ((v : Version) → Contains own v → v.key ≡ key) → ((v : Version) → Contains above v → bytes_cmp key v.key ≡ Less)
    → ((m : TreeMessage) → Contains messages m → m.key ≡ key) → ((m : TreeMessage) → Contains later m → bytes_cmp key m.key ≡ Less)
    → merged (first ++ (own ++ above)) (messages ++ later) pins ≡ first ++ (merged own messages pins ++ merged above later pins)
one_more_key pins key first own above messages later settled rows_below rows_of rows_above messages_of messages_above =
    let from_rows : (v : Version) → Contains (own ++ above) v → IsFrom key v.key = λ v c. ⊎_elim
    (λ (t : Contains own v). inl (sym (rows_of v t)))
    (λ (t : Contains above v). inr (rows_above v t))
    (Contains-append_cases own above v c) in
    let from_messages : (m : TreeMessage) → Contains (messages ++ later) m → IsFrom key m.key = λ m c. ⊎_elim
    (λ (t : Contains messages m). inl (sym (messages_of m t)))
    (λ (t : Contains later m). inr (messages_above m t))
    (Contains-append_cases messages later m c) in
    merges_apart first (own ++ above) [] (messages ++ later) pins (λ k l c d.
    from_on k key l
    (keys_have (λ x. bytes_cmp x key ≡ Less) first [] rows_below (λ m e. absurd (none_in_nothing m e)) k c)
    (keys_have (IsFrom key) (own ++ above) (messages ++ later) from_rows from_messages l d))
    ∙ (λ i. merged_settled first pins settled i ++ merges_apart own above messages later pins (λ k l c d.
    subst (λ x. bytes_cmp x l ≡ Less) (sym (keys_have (λ x. x ≡ key) own messages rows_of messages_of k c))
    (keys_have (λ x. bytes_cmp key x ≡ Less) above later rows_above messages_above l d)) i)

parts : {X : Type 0} (from count : ℕ) (xs : List X) → take from xs ++ (drop from (take (from + count) xs) ++ drop (from + count) xs) ≡ xs
parts from count xs = ap (λ ys. take from xs ++ ys) (sym (split_at from (from + count) xs (omega arith))) ∙ take-append-drop from xs

-- a merge is the rows below a key, what the key's rows and messages leave, and what those above it leave
pub merged_step : (rows : List Version) (batch : List TreeMessage) (pins : TenantPins) (key : List ℕ) (before count messages : ℕ) → AreSettled rows → IsKeyNext rows batch key before count messages
    → merged rows batch pins ≡ take before rows ++ (merged (drop before (take (before + count) rows)) (take messages batch) pins ++ merged (drop (before + count) rows) (drop messages batch) pins)
merged_step rows batch pins key before count messages settled next =
    (λ i. merged (sym (parts before count rows) i) (sym (take-append-drop messages batch) i) pins)
    ∙ one_more_key pins key (take before rows) (drop before (take (before + count) rows)) (drop (before + count) rows) (take messages batch) (drop messages batch)
    (settled_take before rows settled)
    (taken_have (λ (v : Version). bytes_cmp v.key key ≡ Less) rows before next.rows_below)
    (between_have (λ (v : Version). v.key ≡ key) rows before (before + count) next.rows_of)
    (dropped_have (λ (v : Version). bytes_cmp key v.key ≡ Less) rows (before + count) next.rows_above)
    (taken_have (λ (m : TreeMessage). m.key ≡ key) batch messages next.messages_of)
    (dropped_have (λ (m : TreeMessage). bytes_cmp key m.key ≡ Less) batch messages next.messages_above)
