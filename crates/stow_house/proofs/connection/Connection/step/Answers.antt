use Rattle.std.proofs.Common.{◌≡◌, refl, ap, sym, ◌∙◌}
use Rattle.stow_model.specs.Event as event
use Rattle.stow_model.specs.History.{IsOpen, Closed, closed, stream_with}
use Rattle.stow_house.specs.Seen.{status_by}
use Rattle.stow_house.specs.StepResult.{Done, when_open}
use Rattle.stow_house.proofs.Here.{plain, refused}
use Rattle.stow_house.proofs.connection.Connection.step.Goals as goal

pub returns-then-not-self-clause-does : goal.returns-then-not-self-clause-does
returns-then-not-self-clause-does g c = refused c.args.event _ c.args.core.now (λ opened. let bad : Closed ≡ IsOpen = sym (ap status_by c.if-not-self.true) ∙ opened in cc)

pub returns-in-Ok-clause-does : goal.returns-in-Ok-clause-does
returns-in-Ok-clause-does g c = rw c.in-Piece.is (plain (event.Piece c.in-Piece.bytes.now) Done _ _ c.args.core.now tt refl c.in-Ok.ensures.tenant
    (c.in-Ok.ensures.ok ∙ ap (λ b. stream_with (status_by b) c.args.self.now.conversation.input c.in-Piece.bytes.now) (sym c.if-not-self.false))
    (ap (λ b. when_open (status_by b) Done) (sym c.if-not-self.false)))

pub returns-in-Close-clause-does : goal.returns-in-Close-clause-does
returns-in-Close-clause-does g c = rw c.in-Close.is (plain event.Close Done _ _ c.args.core.now tt (ap (λ b. closed (status_by b)) (sym c.if-not-self.false)) refl refl (ap (λ b. when_open (status_by b) Done) (sym c.if-not-self.false)))
