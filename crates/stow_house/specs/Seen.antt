-- What the house knows of a connection.
use Rattle.std.specs.Prelude.{ℕ, Bool, true, false, List, [], Option, Some, None}
use Rattle.std.specs.Ordering.{nat_cmp}
use Rattle.std.specs.BTreeMap.{BTreeMap, get}
use Rattle.std.specs.Option.{ForSome}
use Rattle.stow_model.specs.Login.{Entry, IsTenant}
use Rattle.stow_model.specs.History.{Status, Unused, IsOpen, Closed}
use Rattle.stow_house.specs.declared.connection.Connection.{Connection}

pub record Seen : Type 0 where
  pub status : Status
  pub tenant : Option ℕ
  pub unread : List ℕ

abbrev pub never_opened : Seen
never_opened = record { status = Unused; tenant = None; unread = [] }

abbrev pub just_opened : Seen
just_opened = record { status = IsOpen; tenant = None; unread = [] }

abbrev pub status_by : Bool → Status
status_by true = IsOpen
status_by false = Closed

abbrev pub seen : {A : Type 0} → Option (Connection A) → Seen
seen None = never_opened
seen (Some connection) =
    record {
      status = status_by connection.is_open;
      tenant = connection.conversation.session;
      unread = connection.conversation.input;
    }

-- what is known of the connection of this number
abbrev pub seen_at : {A : Type 0} → BTreeMap ℕ (Connection A) → ℕ → Seen
seen_at connections c = seen (get nat_cmp connections c)

-- whom a connection is served as is a tenant
abbrev pub IsServedTenant : List Entry → Option ℕ → Type 0
IsServedTenant entries tenant = ForSome tenant (IsTenant entries)
