-- Parts of the versions that stand in one block.
use Rattle.std.specs.Prelude.{ℕ, List, [], ◌∷◌, take, drop}
use Rattle.stow_page.specs.StowTreeModel.Version.{Version}

-- a version that is its key's only one
abbrev pub alone : Version → List Version
alone v = v ∷ []

-- the parts of versions, each from one place to before another
abbrev pub parts_at : List Version → ℕ → List ℕ → List (List Version)
parts_at versions from [] = []
parts_at versions from (next ∷ ends) = drop from (take next versions) ∷ parts_at versions next ends
