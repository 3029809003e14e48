use Rattle.std.proofs.Common.{[], ◌∷◌, refl, ap, ◌∙◌, inl, inr}
use Rattle.stow_script.proofs.Texts.{by_digits}
use Rattle.stow_script.proofs.text.escaped.Goals as goal

pub returns-in-114-clause-front : goal.returns-in-114-clause-front
returns-in-114-clause-front c = (114 ∷ [], c.in_ok-kind.ensures.cases.0 ∙ ap (λ k. k ∷ c.in_ok-kind.rest.now) c.in-114.is, inl (refl, refl))

pub returns-in-110-clause-front : goal.returns-in-110-clause-front
returns-in-110-clause-front c = (110 ∷ [], c.in_ok-kind.ensures.cases.0 ∙ ap (λ k. k ∷ c.in_ok-kind.rest.now) c.in-110.is, inr (inl (refl, refl)))

pub returns-in-92-clause-front : goal.returns-in-92-clause-front
returns-in-92-clause-front c = (92 ∷ [], c.in_ok-kind.ensures.cases.0 ∙ ap (λ k. k ∷ c.in_ok-kind.rest.now) c.in-92.is, inr (inr (inl (refl, refl))))

pub returns-in-120-clause-front : goal.returns-in-120-clause-front
returns-in-120-clause-front c = by_digits c.args.text.now c.in_ok-kind.rest.now c.in_ok-kind.kind.now c.hexadecimal.result c.in_ok-kind.ensures.cases.0 c.in-120.is c.hexadecimal.ensures.front
