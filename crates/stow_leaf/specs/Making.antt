-- Leaves made of merged pages.
use Rattle.std.specs.Prelude.{◌≢◌, ℕ, suc, ◌<◌, List, [], ◌∷◌, length, slice_index_or}
use Rattle.stow_merge.specs.StowTreeModel.Version.{Version}
use Rattle.stow_leaf.specs.LeafRows.{LeafRows}

-- the key of the first version
abbrev pub first_key : List Version → List ℕ
first_key [] = []
first_key (v ∷ later) = v.key

-- pages, each with its first key as its fence
abbrev pub fenced : List (List Version) → List LeafRows
fenced [] = []
fenced (page ∷ pages) = (first_key page, page) ∷ fenced pages

-- pages as leaves, the first one with this fence
abbrev pub leaves_from : List ℕ → List (List Version) → List LeafRows
leaves_from low [] = []
leaves_from low (page ∷ pages) = (low, page) ∷ fenced pages

-- no page but the first is empty
abbrev pub AreFilled : List (List Version) → Type 0
AreFilled pages = (i : ℕ) (d : List Version) → suc i < length pages
    → slice_index_or pages (suc i) d ≢ []
