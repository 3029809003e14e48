-- Kept versions, key by key.
use Rattle.std.proofs.Common.{◌≡◌, ◌≢◌, ◌+◌, List, [], ◌∷◌, ◌++◌, take, drop, map, ℕ, suc, refl, ap, ◌∙◌, sym, subst, ⊎_elim, arith}
use Rattle.std.specs.Prelude.{Contains, false, true}
use Rattle.std.specs.declared.cmp.Ordering.TheVariants.{Less}
use Rattle.std.specs.Cmp.Lexicographic.{nat_list_cmp_total}
use Rattle.std.specs.List.{AllByRecursion}
use Rattle.std.specs.List.Sorted.{IsStrictlySortedBy}
use Rattle.std.proofs.lemmas.List.{map-append, take-append-drop}
use Rattle.std.proofs.lemmas.List.Elements.{Contains-append_right}
use Rattle.stow_page.specs.StowBytes.Bytes.{bytes_cmp}
use Rattle.stow_page.specs.StowTreeModel.Merged.{same_key}
use Rattle.stow_page.specs.StowTreeModel.Order.{VersionPlace, place_cmp, version_place, VersionsRise}
use Rattle.stow_page.specs.StowTreeModel.Version.{Version}
use Rattle.stow_page.proofs.StowTreeModel.Histories.{falls_key}
use Rattle.stow_page.proofs.StowTreeModel.Latest.{contains_cases}
use Rattle.stow_page.proofs.StowTreeModel.Orders.{key_cases}
use Rattle.stow_page.proofs.StowTreeModel.Pruning.{contains_here, none_in_nothing}
use Rattle.stow_merge.specs.Pages.{read_in_order, HaveOneKey, KeysBelow}
use Rattle.stow_merge.specs.Writing.{version_in, versions_in, IsKeyRun, AreRuns}
use Rattle.stow_merge.specs.declared.kept_version.KeptVersion as coded
use Rattle.stow_merge.specs.declared.survey.Survey.{Survey}
use Rattle.stow_merge.proofs.Lists.{all_member, all_front, all_mapped_member, map_filled}

-- ---- parts of what rises

module _ {X : Type 0} (place : X → VersionPlace) where
  pub rise_front : (xs more : List X) → IsStrictlySortedBy place_cmp (map place (xs ++ more)) → IsStrictlySortedBy place_cmp (map place xs)
  unfolding IsStrictlySortedBy
  rise_front [] more h = tt
  rise_front (x ∷ xs) more h = (all_front (λ q. place_cmp (place x) q ≡ Less) place xs more h.0, rise_front xs more h.1)

  pub rise_after : (xs more : List X) → IsStrictlySortedBy place_cmp (map place (xs ++ more)) → IsStrictlySortedBy place_cmp (map place more)
  unfolding IsStrictlySortedBy
  rise_after [] more h = h
  rise_after (x ∷ xs) more h = rise_after xs more h.1

-- ---- versions that rise

pub rises_front : (vs ws : List Version) → VersionsRise (vs ++ ws) → VersionsRise vs
rises_front = rise_front version_place

pub rises_after : (vs ws : List Version) → VersionsRise (vs ++ ws) → VersionsRise ws
rises_after = rise_after version_place

pub rises_between : (vs ws : List Version) (v w : Version) → VersionsRise (vs ++ ws) → Contains vs v → Contains ws w → place_cmp (version_place v) (version_place w) ≡ Less
unfolding IsStrictlySortedBy
rises_between [] ws v w h c d = absurd (none_in_nothing v c)
rises_between (x ∷ vs) ws v w h c d = ⊎_elim
    (λ (e : x ≡ v). subst (λ u. place_cmp (version_place u) (version_place w) ≡ Less) e
    (all_mapped_member (λ q. place_cmp (version_place x) q ≡ Less) version_place (vs ++ ws) w h.0 (Contains-append_right vs ws w d)))
    (λ (t : Contains vs v). rises_between vs ws v w h.1 t d)
    (contains_cases x v vs c)

-- versions of one key, before a version of another
key_below : (vs ws : List Version) (f : Version) (key : List ℕ) → VersionsRise (vs ++ f ∷ ws) → AllByRecursion (λ (v : Version). v.key ≡ key) vs → key ≢ f.key → KeysBelow vs (f ∷ ws)
key_below vs ws f key h own ne = record {
  are_below = λ v w c d.
      let first : bytes_cmp v.key f.key ≡ Less =
      falls_key (version_place v) (version_place f) (rises_between vs (f ∷ ws) v f h c (contains_here f ws))
      (λ e. ne (sym (all_member (λ (u : Version). u.key ≡ key) vs v own c) ∙ sym e)) in
      ⊎_elim
      (λ (e : f ≡ w). subst (λ (u : Version). bytes_cmp v.key u.key ≡ Less) e first)
      (λ (t : Contains ws w). ⊎_elim
      (λ (s : (w.key ≡ f.key) × (same_key w.key f.key ≡ true)). subst (λ k. bytes_cmp v.key k ≡ Less) (sym s.0) first)
      (λ (s : (w.key ≢ f.key) × (same_key w.key f.key ≡ false)). nat_list_cmp_total.trans v.key f.key w.key first
      (falls_key (version_place f) (version_place w) (rises_between (f ∷ []) ws f w (rises_after vs (f ∷ ws) h) (contains_here f []) t) s.0))
      (key_cases w.key f.key))
      (contains_cases f w ws d);
}

-- ---- keys

-- each of them has versions of one key, which is below the keys after it
abbrev pub KeysRise : List (List Version) → Type 0
KeysRise [] = Unit {0}
KeysRise (key ∷ keys) = (key ≢ []) × HaveOneKey key × KeysBelow key (read_in_order keys) × KeysRise keys

of_key : {A : Type 0} (survey : Survey A) (run : List coded.KeptVersion) (key : List ℕ) → AllByRecursion (λ (k : coded.KeptVersion). k.key.bytes.now ≡ key) run → AllByRecursion (λ (v : Version). v.key ≡ key) (versions_in survey run)
of_key survey [] key h = tt
of_key survey (k ∷ run) key h = (h.0, of_key survey run key h.1)

one_key : (versions : List Version) (key : List ℕ) → AllByRecursion (λ (v : Version). v.key ≡ key) versions → HaveOneKey versions
one_key versions key all = record { are_of_key = λ v w c d. own v c ∙ sym (own w d) }
  where
    own : (u : Version) → Contains versions u → u.key ≡ key
    own u c = all_member (λ (v : Version). v.key ≡ key) versions u all c

pub runs_read : {A : Type 0} (survey : Survey A) (kept : List coded.KeptVersion) (runs : List (List coded.KeptVersion)) → AreRuns kept runs → read_in_order (map (versions_in survey) runs) ≡ versions_in survey kept
runs_read survey kept [] h = ap (versions_in survey) (sym h)
runs_read survey kept (run ∷ runs) h =
    ap (λ vs. versions_in survey run ++ vs) (runs_read survey h.0 runs h.5)
    ∙ sym (map-append (version_in survey) run h.0)
    ∙ ap (versions_in survey) (sym h.3)

run_below : {A : Type 0} (survey : Survey A) (run rest : List coded.KeptVersion) (key : List ℕ) → IsKeyRun key run rest → VersionsRise (versions_in survey run ++ versions_in survey rest) → KeysBelow (versions_in survey run) (versions_in survey rest)
run_below survey run [] key is h = record { are_below = λ v w c d. absurd (none_in_nothing w d) }
run_below survey run (k ∷ later) key is h = key_below (versions_in survey run) (versions_in survey later) (version_in survey k) key h (of_key survey run key is.are_of_key) (is.ends k later refl)

pub runs_rise : {A : Type 0} (survey : Survey A) (kept : List coded.KeptVersion) (runs : List (List coded.KeptVersion)) → AreRuns kept runs → VersionsRise (versions_in survey kept) → KeysRise (map (versions_in survey) runs)
runs_rise survey kept [] h rise = tt
runs_rise survey kept (run ∷ runs) h rise =
    let whole : VersionsRise (versions_in survey run ++ versions_in survey h.0) = subst VersionsRise (ap (versions_in survey) h.3 ∙ map-append (version_in survey) run h.0) rise in (
      map_filled (version_in survey) run h.2,
      one_key (versions_in survey run) h.1 (of_key survey run h.1 h.4.are_of_key),
      subst (KeysBelow (versions_in survey run)) (sym (runs_read survey h.0 runs h.5)) (run_below survey run h.0 h.1 h.4 whole),
      runs_rise survey h.0 runs h.5 (rises_after (versions_in survey run) (versions_in survey h.0) whole),
    )

-- ---- one run more

-- what is of the first version's key has that version
run_filled : (first : coded.KeptVersion) (later : List coded.KeptVersion) (n : ℕ) → IsKeyRun first.key.bytes.now (take n (first ∷ later)) (drop n (first ∷ later)) → take n (first ∷ later) ≢ []
run_filled first later n is e = is.ends first later (ap (λ xs. xs ++ drop n (first ∷ later)) (sym e) ∙ take-append-drop n (first ∷ later)) refl

-- the first version and those behind it of its key are a run
pub one_run : (kept : List coded.KeptVersion) (first : coded.KeptVersion) (later : List coded.KeptVersion) (n : ℕ) → kept ≡ first ∷ later → IsKeyRun first.key.bytes.now (take n later) (drop n later) → IsKeyRun first.key.bytes.now (take (1 + n) kept) (drop (1 + n) kept)
one_run kept first later n e run = let one : suc n ≡ 1 + n = omega arith in
    subst (λ (k : ℕ). IsKeyRun first.key.bytes.now (take k kept) (drop k kept)) one
    (subst (λ (xs : List coded.KeptVersion). IsKeyRun first.key.bytes.now (take (suc n) xs) (drop (suc n) xs)) (sym e) (record { are_of_key = (refl, run.are_of_key); ends = run.ends }))

pub run_more : (rest : List coded.KeptVersion) (first : coded.KeptVersion) (n : ℕ) (runs : List (List coded.KeptVersion)) → ((later : List coded.KeptVersion) × (rest ≡ first ∷ later)) → IsKeyRun first.key.bytes.now (take n rest) (drop n rest) → AreRuns (drop n rest) runs → AreRuns rest (take n rest ∷ runs)
run_more rest first n runs h is more = (
  drop n rest,
  first.key.bytes.now,
  subst (λ (xs : List coded.KeptVersion). IsKeyRun first.key.bytes.now (take n xs) (drop n xs) → take n xs ≢ []) (sym h.1) (run_filled first h.0 n) is,
  sym (take-append-drop n rest),
  is,
  more,
)
