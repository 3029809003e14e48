use Rattle.std.proofs.Common.{refl, inl, inr}
use Rattle.stow_workers.proofs.Sending.{stays}
use Rattle.stow_workers.proofs.client.Client.tell.Goals as goal

pub returns-in-Ok-clause-told : goal.returns-in-Ok-clause-told
returns-in-Ok-clause-told g c writer = inl (refl, c.in-Ok.ensures.ok writer)

pub returns-in-Err-clause-told : goal.returns-in-Err-clause-told
returns-in-Err-clause-told g c writer = inr (refl, stays _ _ (c.in-Err.ensures.err writer))
