-- Indexes by names.
use Rattle.std.specs.Prelude.{◌≡◌, ◌<◌, ℕ, List, [], ◌∷◌, length, Option}
use Rattle.std.specs.Map.{lookup}
use Rattle.std.specs.Str.{bytes_eq}
use Rattle.std.specs.declared.vec.Vec.{Vec}
use Rattle.stow_model.specs.Login.{Entry}
use Rattle.stow_login.specs.Entries.{index_named}

-- each name, and its index
abbrev pub Names : Type 0
Names = List (List ℕ × ℕ)

-- the names of a map's entries
abbrev pub names_of : {A : Type 0} → List (Vec ℕ A × ℕ) → Names
names_of [] = []
names_of (entry ∷ entries) = (entry.0.items, entry.1) ∷ names_of entries

-- the index of a name, if it has one
abbrev pub index_in : Names → List ℕ → Option ℕ
index_in names name = lookup (bytes_eq name) names

-- fewer than 65,536 entries, each name of which has its index
pub record AreNamed (entries : List Entry) (names : Names) : Type 0 where
  pub few : length entries < 65536
  pub named : (name : List ℕ) → index_in names name ≡ index_named entries name
