-- KeptVersion versions key by key, as they are written into pages.
use Rattle.std.specs.Prelude.{◌≡◌, ◌≢◌, ℕ, ◌<◌, ◌≤◌, ◌^◌, List, [], ◌∷◌, ◌++◌, length, map, take, drop, Some}
use Rattle.std.specs.Borrow.{Bor}
use Rattle.std.specs.List.{AllByRecursion}
use Rattle.stow_page.specs.Format.{entries, packed_page}
use Rattle.stow_page.specs.declared.format.Format.{Format}
use Rattle.stow_page.specs.StowTreeModel.Order.{VersionsRise}
use Rattle.stow_page.specs.StowTreeModel.TreeMessage.{message_of}
use Rattle.stow_page.specs.StowTreeModel.Version.{Version}
use Rattle.stow_merge.specs.KeptVersion.{bytes_between, kept_version}
use Rattle.stow_merge.specs.Pages.{read_in_order, HaveShortValues, HaveOneKey}
use Rattle.stow_merge.specs.declared.kept_version.KeptVersion as coded
use Rattle.stow_merge.specs.declared.survey.Survey.{Survey}

abbrev pub version_in : {A : Type 0} → Survey A → coded.KeptVersion → Version
version_in survey k = kept_version (map message_of survey.joined.items) k

abbrev pub versions_in : {A : Type 0} → Survey A → List coded.KeptVersion → List Version
versions_in survey kept = map (version_in survey) kept

-- the versions of each key
abbrev pub keys_in : {A : Type 0} → Survey A → List (Bor (List coded.KeptVersion))
    → List (List Version)
keys_in survey keys = map (λ key. versions_in survey key.now) keys

-- these kept versions are of the key, and the first of the others isn't
pub record IsKeyRun (key : List ℕ) (run rest : List coded.KeptVersion) : Type 0 where
  pub are_of_key : AllByRecursion (λ (k : coded.KeptVersion). k.key.bytes.now ≡ key) run
  pub ends : (k : coded.KeptVersion) (later : List coded.KeptVersion) → rest ≡ k ∷ later
      → key ≢ k.key.bytes.now

-- kept versions key by key
abbrev pub AreRuns : List coded.KeptVersion → List (List coded.KeptVersion) → Type 0
AreRuns kept [] = kept ≡ []
AreRuns kept (run ∷ runs) = (rest : List coded.KeptVersion) × (key : List ℕ) × (run ≢ [])
    × (kept ≡ run ++ rest) × IsKeyRun key run rest × AreRuns rest runs

-- where more than one message carries a version's value, the bytes are that value
pub record IsFolded {A : Type 0} (survey : Survey A) (k : coded.KeptVersion)
    (bytes : List ℕ) : Type 0 where
  pub are : (from : ℕ) → k.from ≡ Some from → length (drop from (take k.to survey.joined.items)) ≢ 1
      → bytes ≡ bytes_between (map message_of survey.joined.items) from k.to

-- versions of which a page can be made
pub record CanPack (versions : List Version) : Type 0 where
  pub rise : VersionsRise versions
  pub are_short : HaveShortValues versions
  pub has_room : length (packed_page versions) < 2 ^ 32

-- a key's versions are as few as pins and the newest show, and short
pub record AreFewAndShort (versions : List Version) : Type 0 where
  pub few : length versions ≤ 65
  pub are_short : HaveShortValues versions

-- the bytes of each key's entries in this format
pub record AreSizes (format : Format) (keys : List (List Version)) (sizes : List ℕ)
    : Type 0 where
  pub are : sizes ≡ map (λ key. length (entries format key)) keys
  pub are_small : AllByRecursion (λ size. size ≤ 68225235) sizes

-- the pages of keys, each from one key to before another
abbrev pub pages_at : List (List Version) → ℕ → List ℕ → List (List Version)
pages_at keys from [] = []
pages_at keys from (next ∷ ends) =
    read_in_order (drop from (take next keys)) ∷ pages_at keys next ends

-- versions that a merge can write: those of one key are few
pub record CanMerge (versions : List Version) : Type 0 where
  pub rise : VersionsRise versions
  pub are_short : HaveShortValues versions
  pub are_few : (before key after : List Version) → versions ≡ before ++ (key ++ after)
      → HaveOneKey key → length key ≤ 65

-- the pages, or an empty one where there are none
abbrev pub at_least_one_page : List (List Version) → List (List Version)
at_least_one_page [] = [] ∷ []
at_least_one_page (page ∷ pages) = page ∷ pages
