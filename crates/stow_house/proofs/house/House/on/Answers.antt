use Rattle.std.proofs.Common.{rules, ◌≡◌, ℕ, Some, refl, ap, sym, subst, ◌∙◌}
use Rattle.stow_model.specs.History.{IsOpen, Unused}
use Rattle.stow_house.specs.Seen.{seen, seen_at, never_opened}
use Rattle.stow_house.specs.StepResult.{step_result_of, Refused}
use Rattle.stow_house.specs.Connections.{meaning, Happens}
use Rattle.stow_house.proofs.Here.{refused}
use Rattle.stow_house.proofs.Stood.{at_connection}
use Rattle.stow_house.proofs.house.House.on.Goals as goal

pub returns-in-Some-clause-steps : goal.returns-in-Some-clause-steps
returns-in-Some-clause-steps g c =
    let old = c.args.self.now.connections in
    let new = c.get_mut.follows.lender c.step.new.self in
    let e = meaning c.args.event in
    let r = step_result_of c.step.result in
    let here : seen (Some c.step.new.self) ≡ seen_at new c.args.c = search rules in
    let was : seen (Some c.in-Some.connection.now) ≡ seen_at old c.args.c = ap seen c.in-Some.ensures.value in
    at_connection _ _ c.args.c e r
    (subst (λ s. Happens e r s (seen_at new c.args.c) c.args.self.now.core c.step.new.core) was (subst (λ s. Happens e r (seen (Some c.in-Some.connection.now)) s c.args.self.now.core c.step.new.core) here c.step.ensures.does))
    (search rules)
    (λ f. refl)

pub returns-in-None-clause-steps : goal.returns-in-None-clause-steps
returns-in-None-clause-steps g c =
    let old = c.args.self.now.connections in
    let new = c.get_mut.follows.lender-at-none in
    let e = meaning c.args.event in
    let core = c.args.self.now.core in
    let same : (d : ℕ) → seen_at new d ≡ seen_at old d = search rules in
    let was : never_opened ≡ seen_at old c.args.c = ap seen c.in-None.ensures.value in
    at_connection _ _ c.args.c e Refused
    (subst (λ s. Happens e Refused (seen_at old c.args.c) s core core) (sym (same c.args.c)) (refused c.args.event (seen_at old c.args.c) core (λ opened. let bad : Unused ≡ IsOpen = ap (λ s. s.status) was ∙ opened in cc)))
    (λ d differ. same d)
    (λ f. refl)
