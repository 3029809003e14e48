-- Merged pages as leaves.
use Rattle.std.proofs.Common.{◌≡◌, ℕ, true, List, [], ◌∷◌, ◌++◌, map, refl, ap, ◌∙◌, sym}
use Rattle.std.specs.Prelude.{Contains}
use Rattle.std.specs.List.{AllByRecursion}
use Rattle.std.specs.Ordering.{is_lt}
use Rattle.std.specs.declared.cmp.Ordering.TheVariants.{Less}
use Rattle.std.proofs.lemmas.List.{map-append}
use Rattle.std.proofs.lemmas.List.Elements.{Contains-append_left, Contains-append_right}
use Rattle.stow_merge.specs.StowBytes.Bytes.{bytes_cmp}
use Rattle.stow_merge.specs.StowTreeModel.Merged.{row_message}
use Rattle.stow_merge.specs.StowTreeModel.Messages.{ops_in}
use Rattle.stow_merge.specs.StowTreeModel.Operations.{or_else}
use Rattle.stow_merge.specs.StowTreeModel.Order.{VersionsRise}
use Rattle.stow_merge.specs.StowTreeModel.TreeMessage.{TreeMessage}
use Rattle.stow_merge.specs.StowTreeModel.Version.{Version}
use Rattle.stow_merge.proofs.StowTreeModel.Pruning.{contains_here}
use Rattle.stow_merge.proofs.StowMessage.RisingLists.{lt_is}
use Rattle.stow_merge.proofs.KeyLemmas.{rises_after}
use Rattle.stow_merge.specs.Pages.{read_in_order, AreLeafPages}
use Rattle.stow_leaf.specs.Intervals.{spans}
use Rattle.stow_leaf.specs.LeafRows.{LeafRows, row_messages, LeavesTo}
use Rattle.stow_leaf.specs.Making.{fenced, leaves_from}
use Rattle.stow_leaf.specs.Replacements.{IsLeafSize}
use Rattle.stow_leaf.proofs.Intervals.{lt, le_lt, spanned, span_low, span_high}
use Rattle.stow_leaf.proofs.Ops.{ops-append}
use Rattle.stow_leaf.proofs.Found.{rows_within, from_first}

-- ---- their leaves

less_of : (a b : List ℕ) → lt a b ≡ true → bytes_cmp a b ≡ Less
less_of a b e = lt_is (bytes_cmp a b) e

-- pages within an interval are leaves that share it out
pub tiles : (target : ℕ) (low high : List ℕ) (pages : List (List Version)) → AreLeafPages target pages → VersionsRise (read_in_order pages) → ((v : Version) → Contains (read_in_order pages) v → spans low high v.key ≡ true) → bytes_cmp low high ≡ Less → LeavesTo high (leaves_from low pages)
tiles target low high [] a r w o = tt
tiles target low high (p ∷ []) a r w o = (
  record { ordered = o; rows = rows_within low high p (λ v c. w v (Contains-append_left p [] v c)) },
  tt,
)
tiles target low high ([] ∷ q ∷ ps) a r w o = absurd (a.0.is_filled refl)
tiles target low high ((v ∷ p) ∷ [] ∷ ps) a r w o = absurd (a.1.0.is_filled refl)
tiles target low high ((v ∷ p) ∷ (f ∷ q) ∷ ps) a r w o =
    let later : List Version = read_in_order ((f ∷ q) ∷ ps) in
    let below : (u : Version) → Contains (v ∷ p) u → lt u.key f.key ≡ true = λ u c. ap is_lt (a.0.is_below.are_below u f c (contains_here f (q ++ read_in_order ps))) in
    let from : (u : Version) → Contains (v ∷ p) u → spans low high u.key ≡ true = λ u c. w u (Contains-append_left (v ∷ p) later u c) in
    let top : spans low high f.key ≡ true = w f (Contains-append_right (v ∷ p) later f (contains_here f (q ++ read_in_order ps))) in (
      record {
        ordered = less_of low f.key (le_lt low v.key f.key (span_low low high v.key (from v (contains_here v p))) (below v (contains_here v p)));
        rows = rows_within low f.key (v ∷ p) (λ u c. spanned low f.key u.key (span_low low high u.key (from u c)) (below u c));
      },
      tiles target f.key high ((f ∷ q) ∷ ps) a.1 (rises_after (v ∷ p) later r)
          (λ u c. spanned f.key high u.key (from_first f (q ++ read_in_order ps) u (rises_after (v ∷ p) later r) c) (span_high low high u.key (w u (Contains-append_right (v ∷ p) later u c))))
          (less_of f.key high (span_high low high f.key top)),
    )

fenced_sizes : (target : ℕ) (pages : List (List Version)) → AreLeafPages target pages → AllByRecursion (λ (l : LeafRows). IsLeafSize target l.1) (fenced pages)
fenced_sizes target [] a = tt
fenced_sizes target (p ∷ pages) a = (a.0.fits, fenced_sizes target pages a.1)

fenced_keys : (P : List ℕ → Type 0) (target : ℕ) (pages : List (List Version)) → AreLeafPages target pages → ((v : Version) → Contains (read_in_order pages) v → P v.key) → AllByRecursion (λ (l : LeafRows). P l.0) (fenced pages)
fenced_keys P target [] a h = tt
fenced_keys P target ([] ∷ pages) a h = absurd (a.0.is_filled refl)
fenced_keys P target ((v ∷ p) ∷ pages) a h = (
  h v (contains_here v (p ++ read_in_order pages)),
  fenced_keys P target pages a.1 (λ u c. h u (Contains-append_right (v ∷ p) (read_in_order pages) u c)),
)

-- the first page's fence is the leaf's, and each other's one of its keys
pub leaf_fences : (P : List ℕ → Type 0) (target : ℕ) (low : List ℕ) (pages : List (List Version)) → AreLeafPages target pages → P low → ((v : Version) → Contains (read_in_order pages) v → P v.key) → AllByRecursion (λ (l : LeafRows). P l.0) (leaves_from low pages)
leaf_fences P target low [] a f h = tt
leaf_fences P target low (p ∷ pages) a f h = (f, fenced_keys P target pages a.1 (λ u c. h u (Contains-append_right p (read_in_order pages) u c)))

pub leaf_sizes : (target : ℕ) (low : List ℕ) (pages : List (List Version)) → AreLeafPages target pages → AllByRecursion (λ (l : LeafRows). IsLeafSize target l.1) (leaves_from low pages)
leaf_sizes target low [] a = tt
leaf_sizes target low (p ∷ pages) a = (a.0.fits, fenced_sizes target pages a.1)

fenced_messages : (pages : List (List Version)) → row_messages (fenced pages) ≡ map row_message (read_in_order pages)
fenced_messages [] = refl
fenced_messages (p ∷ pages) = ap (λ (l : List TreeMessage). map row_message p ++ l) (fenced_messages pages) ∙ sym (map-append row_message p (read_in_order pages))

pub leaf_messages : (low : List ℕ) (pages : List (List Version)) → row_messages (leaves_from low pages) ≡ map row_message (read_in_order pages)
leaf_messages low [] = refl
leaf_messages low (p ∷ pages) = ap (λ (l : List TreeMessage). map row_message p ++ l) (fenced_messages pages) ∙ sym (map-append row_message p (read_in_order pages))

-- ---- parts of rows

-- what two parts of versions have of a key
pub ops_parts : (vs ws : List Version) (key : List ℕ) (n : ℕ) → ops_in (map row_message (vs ++ ws)) key n ≡ or_else (ops_in (map row_message vs) key n) (ops_in (map row_message ws) key n)
ops_parts vs ws key n = ap (λ l. ops_in l key n) (map-append row_message vs ws) ∙ ops-append (map row_message vs) (map row_message ws) key n
