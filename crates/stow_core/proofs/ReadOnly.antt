-- Commands that only read.
use Rattle.std.proofs.Common.{◌≡◌, ◌≢◌, Bool, true, false, Option, Some, None, refl, ap, sym, ◌∙◌}
use Rattle.std.proofs.Math.Bool.{false≢true}
use Rattle.stow_commands.specs.Commands.{command_of}
use Rattle.stow_commands.specs.declared.command.Command as asked
use Rattle.stow_core.specs.Kinds.{kind_in, LeavesStores}
use Rattle.stow_core.specs.declared.kind.Kind.{Kind}
use Rattle.stow_core.specs.declared.kind.Kind.TheVariants.{Removal, Growth, Read}
use Rattle.stow_model.specs.Command.{Command, Ping, Echo, Get, GetMany, Exists, Length, Range, Del, TakeSnapshot, ListSnapshots, DropSnapshot, GetInSnapshot, RangeInSnapshot, ReportUsage, Change}
use Rattle.stow_model.specs.Reply.{Reply}
use Rattle.stow_model.specs.Store.{Rows, Store, get_reply, in_snapshot, range_reply, snapshot_rows}

-- ---- a PING without a text

abbrev pub is_ping : Command → Bool
is_ping Ping = true
is_ping _ = false

-- any other command owes nothing of what a PING owes
pub other_than_ping : {P : Type 0} (command is : asked.Command) → command ≡ is → is_ping (command_of is) ≡ false → command_of command ≡ Ping → P
other_than_ping command is same other ping = absurd (false≢true (sym other ∙ ap (λ k. is_ping (command_of k)) (sym same) ∙ ap is_ping ping))

-- it only reads
pub ping_reads : (command : Command) (kind : Kind) → kind ≡ kind_in command → command ≡ Ping → kind ≡ Read
ping_reads command kind is ping = is ∙ ap kind_in ping

-- a read makes nothing grow
pub read_is_no_growth : (kind : Kind) → kind ≡ Read → kind ≢ Growth
read_is_no_growth kind read growth = apart (sym read ∙ growth) where
  apart : Read ≡ Growth → ⊥
  apart e = cc

-- ---- reads

shown_stays : (store : Store) (rows : Option Rows) (told : Rows → Reply) → ◌≡◌ {A = Store} (in_snapshot store rows told).0 store
shown_stays store None told = refl
shown_stays store (Some rows) told = refl

removal_is_no_read : Removal ≡ Read → ⊥
removal_is_no_read e = cc

growth_is_no_read : Growth ≡ Read → ⊥
growth_is_no_read e = cc

-- a command that only reads leaves each store
pub reads_leave : (command : Command) → kind_in command ≡ Read → LeavesStores command
reads_leave Ping is store = refl
reads_leave (Echo text) is store = refl
reads_leave (Get key) is store = refl
reads_leave (GetMany keys) is store = refl
reads_leave (Exists keys) is store = refl
reads_leave (Length key) is store = refl
reads_leave (Range from to count) is store = refl
reads_leave (Del keys) is store = absurd (removal_is_no_read is)
reads_leave TakeSnapshot is store = absurd (growth_is_no_read is)
reads_leave ListSnapshots is store = refl
reads_leave (DropSnapshot id) is store = absurd (removal_is_no_read is)
reads_leave (GetInSnapshot id key) is store = shown_stays store (snapshot_rows store id) (get_reply key)
reads_leave (RangeInSnapshot id from to count) is store = shown_stays store (snapshot_rows store id) (range_reply from to count)
reads_leave ReportUsage is store = refl
reads_leave (Change key update) is store = absurd (growth_is_no_read is)
