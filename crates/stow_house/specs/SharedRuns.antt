-- What happens at the house, as a run of the state that all tenants share.
use Rattle.std.specs.Prelude.{◌≡◌, List, [], ◌∷◌, ◌++◌, Option, Some, None}
use Rattle.stow_model.specs.Login.{Entry}
use Rattle.stow_model.specs.Reply.{Reply}
use Rattle.stow_model.specs.History.{Step, Void, At, Flushed, Ordered, Service, service_of, told_at}
use Rattle.stow_core.specs.State.{CoreState, shared_of}
use Rattle.stow_core.specs.StowState.Steps.{SharedStep, ToldEvent, Call, Maintenance}

-- what comes to a tenant's store is a step of the shared state; where nothing comes, it stays
abbrev pub IsCalled : Option Service → Option Reply → CoreState → CoreState → Type 0
IsCalled None told old new = shared_of new ≡ shared_of old
IsCalled (Some service) told old new =
    SharedStep (shared_of old) (Call service.tenant service.event) told (shared_of new)

-- the call of what comes to a tenant's store, if anything does
abbrev pub call_of : Option Service → Option Reply → List ToldEvent
call_of None told = []
call_of (Some service) told = (Call service.tenant service.event, told) ∷ []

-- the step of the shared state that a step of the history is, if it is one
abbrev pub shared_step : List Entry → Step → List Step → List ToldEvent
shared_step entries (Void e) earlier = []
shared_step entries (At c own) earlier =
    call_of (service_of entries (At c own) earlier) (told_at entries c own earlier)
shared_step entries (Flushed e) earlier = (Maintenance, None) ∷ []
shared_step entries (Ordered tenant quota) earlier =
    call_of (service_of entries (Ordered tenant quota) earlier) None

-- the history's steps of the shared state, with what each is told, newest first
unfoldable pub shared_steps : List Entry → List Step → List ToldEvent
shared_steps entries [] = []
shared_steps entries (newest ∷ earlier) =
    shared_step entries newest earlier ++ shared_steps entries earlier
