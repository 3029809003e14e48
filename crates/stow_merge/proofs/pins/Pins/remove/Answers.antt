use Rattle.std.proofs.Common.{◌≡◌, ◌∙◌, ◌<◌, ◌≤◌, ◌==◌, [], length, filter, not, true, false, refl, sym, ap, subst, arith, ⊎_elim}
use Rattle.std.proofs.lemmas.Bool.{cases_lt}
use Rattle.stow_merge.specs.PinLists.{pin_limit, numbers_at, AreRising}
use Rattle.stow_merge.proofs.PinLemmas.{each_stays, numbers_at-set, numbers_at-within, numbers_at-past, same_pins, fewer, rising_filter}
use Rattle.stow_merge.proofs.pins.Pins.remove.Goals as goal

pub invariant_of-self : goal.invariant_of-self
invariant_of-self g c =
    let lists = c.args.self.now.numbers.items in
    let i = c.args.tenant in
    let is_length = c.args.self.now.numbers.ok.0 in
    let is_in = c.in-Some.ensures.variant.0 refl in
    let in_range : i < length lists = omega arith in
    let here : numbers_at lists i ≡ c.in-Some.numbers.now.items = numbers_at-within lists i c.in-Some.numbers.now in_range c.in-Some.ensures.value in
    let left : c.take_out.new.numbers.items ≡ filter (λ p. not (p == c.args.number)) (numbers_at lists i) = c.take_out.ensures ∙ ap (filter (λ p. not (p == c.args.number))) (sym here) in
    let short : length (filter (λ p. not (p == c.args.number)) (numbers_at lists i)) ≤ length (numbers_at lists i) = fewer (λ p. not (p == c.args.number)) (numbers_at lists i) in
    let few : length (numbers_at lists i) ≤ pin_limit = c.args.self.now.few i in
    record {
      few = each_stays (λ xs. length xs ≤ pin_limit) lists i c.take_out.new.numbers in_range (subst (λ xs. length xs ≤ pin_limit) (sym left) (omega arith)) c.args.self.now.few;
      rising = each_stays AreRising lists i c.take_out.new.numbers in_range (subst AreRising (sym left) (rising_filter (λ p. not (p == c.args.number)) (numbers_at lists i) (c.args.self.now.rising i))) c.args.self.now.rising;
    }

pub returns-in-Some : goal.returns-in-Some
returns-in-Some g c =
    let lists = c.args.self.now.numbers.items in
    let i = c.args.tenant in
    let is_length = c.args.self.now.numbers.ok.0 in
    let is_in = c.in-Some.ensures.variant.0 refl in
    let in_range : i < length lists = omega arith in
    let here : numbers_at lists i ≡ c.in-Some.numbers.now.items = numbers_at-within lists i c.in-Some.numbers.now in_range c.in-Some.ensures.value in
    numbers_at-set lists i c.take_out.new.numbers (filter (λ p. not (p == c.args.number)) (numbers_at lists i)) in_range (c.take_out.ensures ∙ ap (filter (λ p. not (p == c.args.number))) (sym here))

pub returns-in_default : goal.returns-in_default
returns-in_default g c =
    let lists = c.args.self.now.numbers.items in
    let i = c.args.tenant in
    let is_length = c.args.self.now.numbers.ok.0 in
    let none : numbers_at lists i ≡ [] = ⊎_elim
    (λ (l : i < length lists). let z = c.in_default.ensures.variant.1 (omega arith) in let bad : false ≡ true = z in cc)
    (λ (l : length lists ≤ i). numbers_at-past lists i l)
    (cases_lt i (length lists)) in
    same_pins (numbers_at lists) i (filter (λ p. not (p == c.args.number)) (numbers_at lists i)) (ap (filter (λ p. not (p == c.args.number))) none ∙ sym none)
