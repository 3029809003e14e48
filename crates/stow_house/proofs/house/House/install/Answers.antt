use Rattle.std.proofs.Common.{rules, ◌≡◌, ℕ, refl, ap, sym, subst}
use Rattle.stow_house.specs.Flushers.{Free, held, held_by, flusher_at, InstallsResult}
use Rattle.stow_house.specs.StepResult.{step_result_of, Refused}
use Rattle.stow_house.proofs.Flushed.{install_steps, no_result}
use Rattle.stow_house.proofs.house.House.install.Goals as goal

pub returns-in-Some-clause-steps : goal.returns-in-Some-clause-steps
returns-in-Some-clause-steps g c =
    let old = c.args.self.now.flushers in
    let new = c.get_mut.follows.lender c.install.new.self in
    let r = step_result_of c.install.result in
    let core = c.args.self.now.core in
    let here : held c.install.new.self ≡ flusher_at new c.args.f = search rules in
    let was : held c.in-Some.flusher.now ≡ flusher_at old c.args.f = ap held_by c.in-Some.ensures.value in
    install_steps _ _ c.args.f r (λ d. refl) (search rules)
    (subst (λ s. InstallsResult r s (flusher_at new c.args.f) core c.install.new.core) was (subst (λ s. InstallsResult r (held c.in-Some.flusher.now) s core c.install.new.core) here c.install.ensures))

pub returns-in-None-clause-steps : goal.returns-in-None-clause-steps
returns-in-None-clause-steps g c =
    let old = c.args.self.now.flushers in
    let new = c.get_mut.follows.lender-at-none in
    let same : (h : ℕ) → flusher_at new h ≡ flusher_at old h = search rules in
    let free : Free ≡ flusher_at old c.args.f = ap held_by c.in-None.ensures.value in
    install_steps _ _ c.args.f Refused (λ d. refl) (λ h differ. same h) (no_result (flusher_at old c.args.f) (sym free), record { flusher = same c.args.f; core = refl })
