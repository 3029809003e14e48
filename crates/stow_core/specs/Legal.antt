-- What every command that words say keeps: its keys are within the limits.
use Rattle.std.specs.Prelude.{ℕ, ◌≤◌, List, length}
use Rattle.std.specs.List.{AllByRecursion}
use Rattle.stow_bytes.specs.Limits.{deleted_limit, key_limit}
use Rattle.stow_model.specs.Command.{Command, Ping, Echo, Get, GetMany, Exists, Length, Range, Del, TakeSnapshot, ListSnapshots, DropSnapshot, GetInSnapshot, RangeInSnapshot, ReportUsage, Change}

abbrev pub IsShortKey : List ℕ → Type 0
IsShortKey key = length key ≤ key_limit

abbrev pub AreShortKeys : List (List ℕ) → Type 0
AreShortKeys keys = AllByRecursion IsShortKey keys

-- each of its keys is within the limit, and a deletion has no more keys than it may
abbrev pub HasLegalKeys : Command → Type 0
HasLegalKeys Ping = Unit {0}
HasLegalKeys (Echo text) = Unit {0}
HasLegalKeys (Get key) = IsShortKey key
HasLegalKeys (GetMany keys) = AreShortKeys keys
HasLegalKeys (Exists keys) = AreShortKeys keys
HasLegalKeys (Length key) = IsShortKey key
HasLegalKeys (Range from to count) = IsShortKey from × IsShortKey to
HasLegalKeys (Del keys) = AreShortKeys keys × (length keys ≤ deleted_limit)
HasLegalKeys TakeSnapshot = Unit {0}
HasLegalKeys ListSnapshots = Unit {0}
HasLegalKeys (DropSnapshot id) = Unit {0}
HasLegalKeys (GetInSnapshot id key) = IsShortKey key
HasLegalKeys (RangeInSnapshot id from to count) = IsShortKey from × IsShortKey to
HasLegalKeys ReportUsage = Unit {0}
HasLegalKeys (Change key update) = IsShortKey key
