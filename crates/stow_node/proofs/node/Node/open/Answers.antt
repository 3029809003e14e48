use Rattle.std.proofs.Common.{◌≡◌, refl, ◌∙◌, subst, arith, ⊎_elim, inl}
use Rattle.stow_node.specs.Subtree.{Subtree}
use Rattle.stow_node.proofs.Reallocated.{OtherBlock, emptied, none_without, reallocated_itself}
use Rattle.stow_node.proofs.node.Node.open.Given as given
use Rattle.stow_node.proofs.node.Node.open.Goals as goal
use Rattle.stow_node.proofs.node.Node.open.Goals.{In_ok-self-inside}

whole : (g : given.Over) (c : In_ok-self-inside g) → OtherBlock c.self.inside c.in_ok-self-inside.field-0
whole g c =
    emptied c.self.inside c.in_ok-self-inside.field-0 c.self.inside.shape.buffer c.self.invariant
    (none_without c.self.inside.buffer.messages (let l = c.used-known.ensures.live in let w = c.used-known.ensures.within in let e = c.capacity.ensures in let z = c.if-capacity-eq0.true in omega (arith, l, w, e, z)))
    c.in_ok-self-inside.ensures (inl refl)

pub returns-in_err-self-inside-clause-same : goal.returns-in_err-self-inside-clause-same
returns-in_err-self-inside-clause-same g c = reallocated_itself c.args.self.now

pub invariant_of-self : goal.invariant_of-self
invariant_of-self g c = (whole g (goal.at.invariant_of-self g c).In_ok-self-inside).is_node

pub returns-in_ok-self-inside-clause-same : goal.returns-in_ok-self-inside-clause-same
returns-in_ok-self-inside-clause-same g c = rw (← c.self.view_is) (whole g (goal.at.returns-in_ok-self-inside-clause-same g c).In_ok-self-inside).reallocated

pub returns-else-capacity-eq0-clause-same : goal.returns-else-capacity-eq0-clause-same
returns-else-capacity-eq0-clause-same g c = reallocated_itself c.args.self.now

pub returns-else-capacity-eq0-clause-block : goal.returns-else-capacity-eq0-clause-block
returns-else-capacity-eq0-clause-block g c =
    subst (λ (s : Subtree). s.buffer.capacity ≡ s.shape.buffer) c.self.view_is
    (⊎_elim (λ (e : c.self.inside.buffer.capacity ≡ c.self.inside.shape.buffer). e) (λ (z : c.self.inside.buffer.capacity ≡ 0). absurd (c.if-capacity-eq0.false (c.capacity.ensures ∙ z))) c.self.invariant.block)
