-- What happens at the service.
use Rattle.std.specs.Prelude.{ℕ, List}
use Rattle.stow_model.specs.declared.event.Event as coded
use Rattle.stow_model.specs.declared.event.Event.TheVariants as in_event

-- what happens on a connection
pub data ConnectionEvent : Type 0 where
  Open : ConnectionEvent
  Piece : List ℕ → ConnectionEvent
  Serve : ConnectionEvent
  Close : ConnectionEvent

-- what a flusher does, and another size of its cache
pub data FlusherEvent : Type 0 where
  Plan : ℕ → FlusherEvent
  Merge : ℕ → FlusherEvent
  Install : ℕ → FlusherEvent
  Resize : ℕ → FlusherEvent

pub data Event : Type 0 where
  On : ℕ → ConnectionEvent → Event
  By : FlusherEvent → Event
  -- the operator gives the tenant of this index this quota
  SetQuota : ℕ → ℕ → Event

-- what the code's type stands for, whatever allocator it has its memory from
abbrev pub event_of : {A : Type 0} → coded.Event A → Event
event_of (in_event.Open c) = On c Open
event_of (in_event.Piece c bytes) = On c (Piece bytes)
event_of (in_event.Serve c) = On c Serve
event_of (in_event.Close c) = On c Close
event_of (in_event.Plan f) = By (Plan f)
event_of (in_event.Merge f) = By (Merge f)
event_of (in_event.Install f) = By (Install f)
event_of (in_event.Resize n) = By (Resize n)
event_of (in_event.Quota tenant quota) = SetQuota tenant quota
