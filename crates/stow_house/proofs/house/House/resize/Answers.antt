use Rattle.std.proofs.Common.{refl, inl, inr, arith}
use Rattle.stow_model.specs.Event as event
use Rattle.stow_house.specs.StepResult.{Done, Refused, NoMemory}
use Rattle.stow_house.proofs.Stood.{flushed, kept_as, kept_by}
use Rattle.stow_house.proofs.house.House.resize.Goals as goal

pub returns-then-leaves-gt-MOST_LEAVES-clause-steps : goal.returns-then-leaves-gt-MOST_LEAVES-clause-steps
returns-then-leaves-gt-MOST_LEAVES-clause-steps g c =
    flushed _ _ (event.Resize c.args.leaves) Refused (inr (omega arith, refl)) (λ d. refl) (kept_as _ _ refl) (refl, λ f. refl)

pub returns-in-Ok-clause-steps : goal.returns-in-Ok-clause-steps
returns-in-Ok-clause-steps g c =
    flushed _ _ (event.Resize c.args.leaves) Done (inl (omega arith, inl refl)) (λ d. refl) (kept_by _ _ c.resize.ensures.keeps) (c.in-Ok.ensures.ok, λ f. refl)

pub returns-in-Err-clause-steps : goal.returns-in-Err-clause-steps
returns-in-Err-clause-steps g c =
    flushed _ _ (event.Resize c.args.leaves) NoMemory (inl (omega arith, inr refl)) (λ d. refl) (kept_by _ _ c.resize.ensures.keeps) (c.in-Err.ensures.err, λ f. refl)
