-- The plain store's rows, as a finite map.
use Rattle.std.specs.Prelude.{ℕ, List, [], ◌∷◌, refl}
use Rattle.std.specs.Coded.{Coded, code_by, coded×, coded_ℕ, coded_list}
use Rattle.std.specs.FinMap as map
use Rattle.stow_model.specs.Store.{Version, Rows}
use Rattle.stow_plain.specs.declared.plain_version.PlainVersion.{PlainVersion}

-- what the code's type stands for, whatever allocator it has its memory from
abbrev pub version_of : {A : Type 0} → PlainVersion A → Version
version_of v = record { number = v.number; value = v.value }

-- a version is stored as the pair of its fields
abbrev pub version_code : Coded Version
version_code =
    code_by (ℕ × List ℕ) (coded× coded_ℕ (coded_list coded_ℕ)) (λ v. (v.number, v.value))
    (λ p. record { number = p.0; value = p.1 }) (λ _. refl)

abbrev pub rows_code : Coded Rows
rows_code = map.code (coded_list coded_ℕ) version_code

-- entries whose keys have the bytes that `bytes` gives
abbrev pub entries_of : {K A : Type 0} → (K → List ℕ) → List (K × PlainVersion A)
    → List (List ℕ × Version)
entries_of bytes [] = []
entries_of bytes (e ∷ es) = (bytes e.0, version_of e.1) ∷ entries_of bytes es

abbrev pub rows_of : {K A : Type 0} → (K → List ℕ) → List (K × PlainVersion A) → Rows
rows_of bytes es = map.from_entries (entries_of bytes es)
