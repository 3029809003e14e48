-- The order in which messages and versions stand: by key, and for one key by number.
use Rattle.std.specs.Prelude.{ℕ, List, map}
use Rattle.std.specs.declared.cmp.Ordering.{Ordering}
use Rattle.std.specs.Ordering.{nat_cmp, ordering_then}
use Rattle.std.specs.List.Sorted.{IsStrictlySortedBy}
use Rattle.stow_bytes.specs.Bytes.{bytes_cmp}
use Rattle.stow_tree_model.specs.TreeMessage.{TreeMessage}
use Rattle.stow_tree_model.specs.Version.{Version}

-- a key and a number
abbrev pub VersionPlace : Type 0
VersionPlace = List ℕ × ℕ

abbrev pub place_cmp : VersionPlace → VersionPlace → Ordering
place_cmp a b = ordering_then (bytes_cmp a.0 b.0) (nat_cmp a.1 b.1)

abbrev pub place_of : TreeMessage → VersionPlace
place_of m = (m.key, m.number)

abbrev pub version_place : Version → VersionPlace
version_place v = (v.key, v.number)

-- each message stands above those before it, so none has the key and number of another
abbrev pub MessagesRise : List TreeMessage → Type 0
MessagesRise ms = IsStrictlySortedBy place_cmp (map place_of ms)

-- each version stands above those before it
abbrev pub VersionsRise : List Version → Type 0
VersionsRise vs = IsStrictlySortedBy place_cmp (map version_place vs)
