-- What commands may do to what rows take.
use Rattle.std.specs.Prelude.{◌≡◌}
use Rattle.stow_core.specs.declared.kind.Kind.{Kind}
use Rattle.stow_core.specs.declared.kind.Kind.TheVariants.{Removal, Growth, Read}
use Rattle.stow_model.specs.Command.{Command, Ping, Echo, Get, GetMany, Exists, Length, Range, Del, TakeSnapshot, ListSnapshots, DropSnapshot, GetInSnapshot, RangeInSnapshot, ReportUsage, Change}
use Rattle.stow_model.specs.Store.{Store, served}

-- which commands are removals, which may make the tenant's rows take more, and which only read
abbrev pub kind_in : Command → Kind
kind_in Ping = Read
kind_in (Echo text) = Read
kind_in (Get key) = Read
kind_in (GetMany keys) = Read
kind_in (Exists keys) = Read
kind_in (Length key) = Read
kind_in (Range from to count) = Read
kind_in (Del keys) = Removal
kind_in TakeSnapshot = Growth
kind_in ListSnapshots = Read
kind_in (DropSnapshot id) = Removal
kind_in (GetInSnapshot id key) = Read
kind_in (RangeInSnapshot id from to count) = Read
kind_in ReportUsage = Read
kind_in (Change key update) = Growth

-- the command leaves each store that it is served in
abbrev pub LeavesStores : Command → Type 0
LeavesStores command = (store : Store) → ◌≡◌ {A = Store} (served store command).0 store
