use Rattle.std.proofs.Common.{rules, ◌≡◌, ℕ, refl, ap, sym, subst}
use Rattle.stow_house.specs.Flushers.{Free, held, held_by, flusher_at, MergesJob}
use Rattle.stow_house.specs.StepResult.{step_result_of, Refused}
use Rattle.stow_house.proofs.Flushed.{merge_steps, no_job}
use Rattle.stow_house.proofs.house.House.merge.Goals as goal

pub returns-in-Some-clause-steps : goal.returns-in-Some-clause-steps
returns-in-Some-clause-steps g c =
    let old = c.args.self.now.flushers in
    let new = c.get_mut.follows.lender c.merge.new.self in
    let r = step_result_of c.merge.result in
    let here : held c.merge.new.self ≡ flusher_at new c.args.f = search rules in
    let was : held c.in-Some.flusher.now ≡ flusher_at old c.args.f = ap held_by c.in-Some.ensures.value in
    merge_steps _ _ c.args.f r (λ d. refl) (search rules) refl
    (subst (λ s. MergesJob r s (flusher_at new c.args.f)) was (subst (MergesJob r (held c.in-Some.flusher.now)) here c.merge.ensures))

pub returns-in-None-clause-steps : goal.returns-in-None-clause-steps
returns-in-None-clause-steps g c =
    let old = c.args.self.now.flushers in
    let new = c.get_mut.follows.lender-at-none in
    let same : (h : ℕ) → flusher_at new h ≡ flusher_at old h = search rules in
    let free : Free ≡ flusher_at old c.args.f = ap held_by c.in-None.ensures.value in
    merge_steps _ _ c.args.f Refused (λ d. refl) (λ h differ. same h) refl (no_job (flusher_at old c.args.f) (sym free), same c.args.f)
