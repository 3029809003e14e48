-- What a key has from a number on: what the code's type with memory of its own stands for.
use Rattle.stow_tree_model.specs.Version.{Version}
use Rattle.stow_tree_model.specs.declared.version_buf.VersionBuf as coded

abbrev pub version_of_buf : {A : Type 0} → coded.VersionBuf A → Version
version_of_buf v = record { key = v.key; number = v.number; value = v.value }
