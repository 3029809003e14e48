-- A merge goes key by key: what rows and messages leave below a key is apart from what those above it leave.
use Rattle.std.proofs.Common.{◌≡◌, ◌⊎◌, ℕ, List, [], ◌∷◌, ◌++◌, map, ap, ◌∙◌, sym, subst, ⊎_elim, inl, inr}
use Rattle.std.specs.Prelude.{Contains, IsSome}
use Rattle.std.specs.List.{AllByRecursion}
use Rattle.std.specs.List.Sorted.{IsStrictlySortedBy}
use Rattle.std.specs.Ordering.{nat_cmp, ordering_then}
use Rattle.std.specs.declared.cmp.Ordering.TheVariants.{Less}
use Rattle.std.proofs.lemmas.List.Elements.{Contains-append_cases, Contains-append_left, Contains-append_right}
use Rattle.stow_page.specs.StowBytes.Bytes.{bytes_cmp}
use Rattle.stow_page.specs.StowTreeModel.Agreement.{TenantPins}
use Rattle.stow_page.specs.StowTreeModel.Merged.{rows_set, row_message, merged, Stays, IsPruning}
use Rattle.stow_page.specs.StowTreeModel.Messages.{ops_in, with_all}
use Rattle.stow_page.specs.StowTreeModel.Operations.{Operations, or_else}
use Rattle.stow_page.specs.StowTreeModel.Order.{place_cmp, version_place, VersionsRise}
use Rattle.stow_page.specs.StowTreeModel.TreeMessage.{TreeMessage}
use Rattle.stow_page.specs.StowTreeModel.Version.{Version}
use Rattle.stow_page.proofs.StowTreeModel.Latest.{contains_cases}
use Rattle.stow_page.proofs.StowTreeModel.Pruning.{pruning, pruned_exactly_law, contains_here, contains_there, none_in_nothing}
use Rattle.stow_merge.proofs.KeyOps.{not_below, or_nothing, nothing_or, none_if_not, one_of, message_found, row_found, ops_over, ops_over-append, ops-merged, stays_of}

-- ---- keys of rows and messages

abbrev pub keys_of : List Version → List TreeMessage → List (List ℕ)
keys_of rows batch = map (λ (v : Version). v.key) rows ++ map (λ (m : TreeMessage). m.key) batch

-- each key of the first rows and messages is below each one of the others
abbrev pub AreKeysBelow : List Version → List TreeMessage → List Version → List TreeMessage → Type 0
AreKeysBelow rows batch more later = (k l : List ℕ) → Contains (keys_of rows batch) k → Contains (keys_of more later) l → bytes_cmp k l ≡ Less

mapped_there : {X Y : Type 0} (f : X → Y) (xs : List X) (x : X) → Contains xs x → Contains (map f xs) (f x)
mapped_there f [] x c = absurd (none_in_nothing x c)
mapped_there f (y ∷ ys) x c = ⊎_elim
    (λ (e : y ≡ x). subst (λ z. Contains (f y ∷ map f ys) (f z)) e (contains_here (f y) (map f ys)))
    (λ (t : Contains ys x). contains_there (f y) (f x) (map f ys) (mapped_there f ys x t))
    (contains_cases y x ys c)

mapped_from : {X Y : Type 0} (f : X → Y) (xs : List X) (y : Y) → Contains (map f xs) y → (x : X) × Contains xs x × (f x ≡ y)
mapped_from f [] y c = absurd (none_in_nothing y c)
mapped_from f (x ∷ xs) y c = ⊎_elim
    (λ (e : f x ≡ y). (x, contains_here x xs, e))
    (λ (t : Contains (map f xs) y). let later = mapped_from f xs y t in (later.0, contains_there x later.0 xs later.1, later.2))
    (contains_cases (f x) y (map f xs) c)

pub row_key : (rows : List Version) (batch : List TreeMessage) (v : Version) → Contains rows v → Contains (keys_of rows batch) v.key
row_key rows batch v c = Contains-append_left (map (λ (v : Version). v.key) rows) (map (λ (m : TreeMessage). m.key) batch) v.key (mapped_there (λ (v : Version). v.key) rows v c)

pub message_key : (rows : List Version) (batch : List TreeMessage) (m : TreeMessage) → Contains batch m → Contains (keys_of rows batch) m.key
message_key rows batch m c = Contains-append_right (map (λ (v : Version). v.key) rows) (map (λ (m : TreeMessage). m.key) batch) m.key (mapped_there (λ (m : TreeMessage). m.key) batch m c)

-- what holds of the keys of rows and of messages holds of their keys
pub keys_have : (P : List ℕ → Type 0) (rows : List Version) (batch : List TreeMessage) → ((v : Version) → Contains rows v → P v.key) → ((m : TreeMessage) → Contains batch m → P m.key) → (k : List ℕ) → Contains (keys_of rows batch) k → P k
keys_have P rows batch of_rows of_batch k c = ⊎_elim
    (λ (t : Contains (map (λ (v : Version). v.key) rows) k). let w = mapped_from (λ (v : Version). v.key) rows k t in subst P w.2 (of_rows w.0 w.1))
    (λ (t : Contains (map (λ (m : TreeMessage). m.key) batch) k). let w = mapped_from (λ (m : TreeMessage). m.key) batch k t in subst P w.2 (of_batch w.0 w.1))
    (Contains-append_cases (map (λ (v : Version). v.key) rows) (map (λ (m : TreeMessage). m.key) batch) k c)

-- ---- a key's operations are those of the part that has the key

row_has : (rows : List Version) (batch : List TreeMessage) (key : List ℕ) (n : ℕ) → IsSome (ops_in (map row_message rows) key n) → Contains (keys_of rows batch) key
row_has rows batch key n s = let w = row_found rows key n s in subst (Contains (keys_of rows batch)) w.2 (row_key rows batch w.0 w.1)

message_has : (rows : List Version) (batch : List TreeMessage) (key : List ℕ) (n : ℕ) → IsSome (ops_in batch key n) → Contains (keys_of rows batch) key
message_has rows batch key n s = let w = message_found batch key n s in subst (Contains (keys_of rows batch)) w.2 (message_key rows batch w.0 w.1)

pub has_key : (rows : List Version) (batch : List TreeMessage) (key : List ℕ) (n : ℕ) → IsSome (ops_over rows batch key n) → Contains (keys_of rows batch) key
has_key rows batch key n s = ⊎_elim
    (λ (t : IsSome (ops_in batch key n)). message_has rows batch key n t)
    (λ (t : IsSome (ops_in (map row_message rows) key n)). row_has rows batch key n t)
    (one_of (ops_in batch key n) (ops_in (map row_message rows) key n) s)

ops_left : (rows more : List Version) (batch later : List TreeMessage) (key : List ℕ) → (Contains (keys_of more later) key → ⊥) → (n : ℕ) → ops_over (rows ++ more) (batch ++ later) key n ≡ ops_over rows batch key n
ops_left rows more batch later key none n =
    ops_over-append rows more batch later key n
    ∙ (λ i. or_else
    (or_nothing (ops_in batch key n) (ops_in later key n) (none_if_not (ops_in later key n) (λ s. none (message_has more later key n s))) i)
    (or_nothing (ops_in (map row_message rows) key n) (ops_in (map row_message more) key n) (none_if_not (ops_in (map row_message more) key n) (λ s. none (row_has more later key n s))) i))

ops_right : (rows more : List Version) (batch later : List TreeMessage) (key : List ℕ) → (Contains (keys_of rows batch) key → ⊥) → (n : ℕ) → ops_over (rows ++ more) (batch ++ later) key n ≡ ops_over more later key n
ops_right rows more batch later key none n =
    ops_over-append rows more batch later key n
    ∙ (λ i. or_else
    (nothing_or (ops_in batch key n) (ops_in later key n) (none_if_not (ops_in batch key n) (λ s. none (message_has rows batch key n s))) i)
    (nothing_or (ops_in (map row_message rows) key n) (ops_in (map row_message more) key n) (none_if_not (ops_in (map row_message rows) key n) (λ s. none (row_has rows batch key n s))) i))

split_ops : (rows more : List Version) (batch later : List TreeMessage) (key : List ℕ) (n : ℕ) → IsSome (ops_over (rows ++ more) (batch ++ later) key n) → Contains (keys_of rows batch) key ⊎ Contains (keys_of more later) key
split_ops rows more batch later key n s = ⊎_elim
    (λ (t : IsSome (or_else (ops_in batch key n) (ops_in later key n))). ⊎_elim
    (λ (u : IsSome (ops_in batch key n)). inl (message_has rows batch key n u))
    (λ (u : IsSome (ops_in later key n)). inr (message_has more later key n u))
    (one_of (ops_in batch key n) (ops_in later key n) t))
    (λ (t : IsSome (or_else (ops_in (map row_message rows) key n) (ops_in (map row_message more) key n))). ⊎_elim
    (λ (u : IsSome (ops_in (map row_message rows) key n)). inl (row_has rows batch key n u))
    (λ (u : IsSome (ops_in (map row_message more) key n)). inr (row_has more later key n u))
    (one_of (ops_in (map row_message rows) key n) (ops_in (map row_message more) key n) t))
    (one_of (or_else (ops_in batch key n) (ops_in later key n)) (or_else (ops_in (map row_message rows) key n) (ops_in (map row_message more) key n)) (subst IsSome (ops_over-append rows more batch later key n) s))

-- ---- versions

stays_key : (rows : List Version) (batch : List TreeMessage) (pins : TenantPins) (v : Version) → Stays pins (with_all (rows_set rows) batch) v → Contains (keys_of rows batch) v.key
stays_key rows batch pins v s = has_key rows batch v.key v.number (subst (λ (f : Operations). IsSome (f v.number)) (ops-merged rows batch v.key) s.is_kept.0)

-- a merge's keys are those of its rows and messages
pub merged_key : (rows : List Version) (batch : List TreeMessage) (pins : TenantPins) (v : Version) → Contains (merged rows batch pins) v → Contains (keys_of rows batch) v.key
merged_key rows batch pins v c = stays_key rows batch pins v ((pruning pins (with_all (rows_set rows) batch)).only_these v c)

all_push : {X Y : Type 0} (P : Y → Type 0) (f : X → Y) (xs ys : List X) → AllByRecursion P (map f xs) → ((y : X) → Contains ys y → P (f y)) → AllByRecursion P (map f (xs ++ ys))
all_push P f [] [] h k = tt
all_push P f [] (y ∷ ys) h k = (k y (contains_here y ys), all_push P f [] ys tt (λ z c. k z (contains_there y z ys c)))
all_push P f (x ∷ xs) ys h k = (h.0, all_push P f xs ys h.1 k)

-- versions that rise, above others that rise
pub rises_join : (vs ws : List Version) → VersionsRise vs → VersionsRise ws → ((v w : Version) → Contains vs v → Contains ws w → bytes_cmp v.key w.key ≡ Less) → VersionsRise (vs ++ ws)
unfolding IsStrictlySortedBy
rises_join [] ws h k below = k
rises_join (v ∷ vs) ws h k below = (
  all_push (λ q. place_cmp (version_place v) q ≡ Less) version_place vs ws h.0 (λ w c. ap (λ o. ordering_then o (nat_cmp v.number w.number)) (below v w (contains_here v vs) c)),
  rises_join vs ws h.1 k (λ x w c d. below x w (contains_there v x vs c) d),
)

-- ---- two parts

-- rows and messages of which each key is below those of others merge apart from them
pub merges_apart : (rows more : List Version) (batch later : List TreeMessage) (pins : TenantPins) → AreKeysBelow rows batch more later → merged (rows ++ more) (batch ++ later) pins ≡ merged rows batch pins ++ merged more later pins
merges_apart rows more batch later pins below =
    let low : IsPruning pins (with_all (rows_set rows) batch) (merged rows batch pins) = pruning pins (with_all (rows_set rows) batch) in
    let high : IsPruning pins (with_all (rows_set more) later) (merged more later pins) = pruning pins (with_all (rows_set more) later) in
    let not_high : (key : List ℕ) → Contains (keys_of rows batch) key → Contains (keys_of more later) key → ⊥ = λ key c d. not_below key (below key key c d) in
    sym ((pruned_exactly_law pins (with_all (rows_set (rows ++ more)) (batch ++ later)) (merged rows batch pins ++ merged more later pins)).1 (record {
      rises = rises_join (merged rows batch pins) (merged more later pins) low.rises high.rises (λ v w c d. below v.key w.key (merged_key rows batch pins v c) (merged_key more later pins w d));
      only_these = λ v c. ⊎_elim
          (λ (t : Contains (merged rows batch pins) v). stays_of pins rows (rows ++ more) batch (batch ++ later) v
          (λ n. sym (ops_left rows more batch later v.key (not_high v.key (merged_key rows batch pins v t)) n))
          (low.only_these v t))
          (λ (t : Contains (merged more later pins) v). stays_of pins more (rows ++ more) later (batch ++ later) v
          (λ n. sym (ops_right rows more batch later v.key (λ d. not_high v.key d (merged_key more later pins v t)) n))
          (high.only_these v t))
          (Contains-append_cases (merged rows batch pins) (merged more later pins) v c);
      all_these = λ v s. ⊎_elim
          (λ (t : Contains (keys_of rows batch) v.key). Contains-append_left (merged rows batch pins) (merged more later pins) v
          (low.all_these v (stays_of pins (rows ++ more) rows (batch ++ later) batch v (ops_left rows more batch later v.key (not_high v.key t)) s)))
          (λ (t : Contains (keys_of more later) v.key). Contains-append_right (merged rows batch pins) (merged more later pins) v
          (high.all_these v (stays_of pins (rows ++ more) more (batch ++ later) later v (ops_right rows more batch later v.key (λ d. not_high v.key d t)) s)))
          (split_ops rows more batch later v.key v.number (subst (λ (f : Operations). IsSome (f v.number)) (ops-merged (rows ++ more) (batch ++ later) v.key) s.is_kept.0));
    }))
