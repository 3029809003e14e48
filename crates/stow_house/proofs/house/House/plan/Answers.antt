use Rattle.std.proofs.Common.{rules, ◌≡◌, ◌≢◌, ℕ, refl, ap, ◌∙◌, subst, inl}
use Rattle.stow_house.specs.Flushers.{held, held_by, flusher_at, PlansJob}
use Rattle.stow_house.specs.StepResult.{step_result_of, NoMemory}
use Rattle.stow_house.proofs.Flushed.{plan_steps}
use Rattle.stow_house.proofs.house.House.plan.Goals as goal

pub returns-in_default-clause-steps : goal.returns-in_default-clause-steps
returns-in_default-clause-steps g c =
    let free = c.in_default.ensures.err in
    plan_steps _ _ c.args.f NoMemory (λ d. refl) (λ h differ. c.make_place.ensures.same h) (record { free = free; still = c.make_place.ensures.same c.args.f ∙ free; core = inl refl; messages = refl })

pub returns-clause-steps : goal.returns-clause-steps
returns-clause-steps g c =
    let old = c.args.self.now.flushers in
    let mid = c.make_place.new.flushers in
    let new = c.get_mut.follows.lender c.plan.new.self in
    let r = step_result_of c.plan.result in
    let core = c.args.self.now.core in
    let here : held c.plan.new.self ≡ flusher_at new c.args.f = search rules in
    let was : held c.in-Some.flusher.now ≡ flusher_at old c.args.f = ap held_by c.in-Some.ensures.value ∙ c.make_place.ensures.same c.args.f in
    let others : (h : ℕ) → h ≢ c.args.f → flusher_at new h ≡ flusher_at mid h = search rules in
    plan_steps _ _ c.args.f r (λ d. refl) (λ h differ. others h differ ∙ c.make_place.ensures.same h)
    (subst (λ s. PlansJob r s (flusher_at new c.args.f) core c.plan.new.core) was (subst (λ s. PlansJob r (held c.in-Some.flusher.now) s core c.plan.new.core) here c.plan.ensures))
