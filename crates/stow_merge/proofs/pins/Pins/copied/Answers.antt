use Rattle.std.proofs.Common.{◌≡◌, ◌∙◌, ◌≤◌, ℕ, length, ap, sym, subst, arith}
use Rattle.std.proofs.lemmas.List.{take_all}
use Rattle.stow_merge.specs.PinLists.{pin_limit, numbers_at, AreRising}
use Rattle.stow_merge.proofs.PinLemmas.{number_lists, same_lists}
use Rattle.stow_merge.proofs.pins.Pins.copied.Given as given
use Rattle.stow_merge.proofs.pins.Pins.copied.Goals as goal
use Rattle.stow_merge.proofs.pins.Pins.copied.Goals.{After-loop-i}

same : (g : given.Over) (c : After-loop-i g) (t : ℕ) → numbers_at c.loop-i.numbers.items t ≡ numbers_at c.args.self.now.numbers.items t
same g c t =
    let lists = c.args.self.now.numbers.items in
    let over : length lists ≤ c.loop-i.i = (let l = c.loop-i-test.false in let e = c.len-i-end.ensures in let o = c.args.self.now.numbers.ok.0 in omega (arith, l, e, o)) in
    same_lists c.loop-i.numbers.items lists t (c.loop-i.invariant ∙ ap number_lists (take_all c.loop-i.i lists over))

pub invariant_of-result : goal.invariant_of-result
invariant_of-result g c = record {
  few = λ t. subst (λ ns. length ns ≤ pin_limit) (sym (same g (goal.at.invariant_of-result g c).After-loop-i t)) (c.args.self.now.few t);
  rising = λ t. subst AreRising (sym (same g (goal.at.invariant_of-result g c).After-loop-i t)) (c.args.self.now.rising t);
}

pub returns : goal.returns
returns g c = λ t. same g (goal.at.returns g c).After-loop-i t
