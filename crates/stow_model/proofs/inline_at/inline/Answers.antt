use Rattle.std.proofs.Common.{◌≡◌, ◌+◌, ◌-◌, false, ℕ, length, take, drop, sym, ◌∙◌, subst, arith, rules, tests}
use Rattle.std.specs.Prelude.{◌==◌}
use Rattle.std.specs.List.{AllByRecursion}
use Rattle.std.proofs.lemmas.Iterator.{YieldsList-from_slice}
use Rattle.std.proofs.lemmas.Iterator.Search.{position_from_yields_List}
use Rattle.stow_bytes.specs.Limits.{line_limit}
use Rattle.stow_model.proofs.Inlines.{found_at, found_none, line_found, line_goes_on, line_stuck}
use Rattle.stow_model.proofs.inline_at.inline.Goals as goal

pub returns-in-Some : goal.returns-in-Some
returns-in-Some c =
    let bytes = c.args.bytes.now in
    let end = c.min-end.result in
    let at = position_from_yields_List (λ (b : ℕ). b == 10) _ _ _ c.position.ensures.ran (YieldsList-from_slice (take (end - c.args.looked) (drop c.args.looked bytes)) c.iter.ensures.rest) (λ x b q k. search (rules, tests)) in
    let found = found_at (λ b. b == 10) (take (end - c.args.looked) (drop c.args.looked bytes)) c.in-Some.more (sym at ∙ c.in-Some.is) in
    line_found bytes c.split_at.result.0.now c.split_at.result.1.now c.args.looked end c.in-Some.more c.requires (let m = c.min-end.ensures in omega (arith, c.requires.1, c.requires.2.1)) (let m = c.min-end.ensures in omega arith) (let m = c.min-end.ensures in omega arith) found c.split_at.ensures.front c.split_at.ensures.back

pub returns-in-None : goal.returns-in-None
returns-in-None c =
    let bytes = c.args.bytes.now in
    let end = c.min-end.result in
    let m = c.min-end.ensures in
    let at = position_from_yields_List (λ (b : ℕ). b == 10) _ _ _ c.position.ensures.ran (YieldsList-from_slice (take (end - c.args.looked) (drop c.args.looked bytes)) c.iter.ensures.rest) (λ x b q k. search (rules, tests)) in
    let none = found_none (λ b. b == 10) (take (end - c.args.looked) (drop c.args.looked bytes)) (sym at ∙ c.in-None.is) in
    let is : end ≡ line_limit + 1 = omega arith in
    line_stuck bytes c.args.looked c.requires c.if-bytes-gt-LINE_LIMIT.true (subst (λ n. AllByRecursion (λ b. (b == 10) ≡ false) (take (n - c.args.looked) (drop c.args.looked bytes))) is none)

pub returns-in-None-2 : goal.returns-in-None-2
returns-in-None-2 c =
    let bytes = c.args.bytes.now in
    let end = c.min-end.result in
    let m = c.min-end.ensures in
    let at = position_from_yields_List (λ (b : ℕ). b == 10) _ _ _ c.position.ensures.ran (YieldsList-from_slice (take (end - c.args.looked) (drop c.args.looked bytes)) c.iter.ensures.rest) (λ x b q k. search (rules, tests)) in
    let none = found_none (λ b. b == 10) (take (end - c.args.looked) (drop c.args.looked bytes)) (sym at ∙ c.in-None.is) in
    let is : end ≡ length bytes = omega arith in
    line_goes_on bytes c.args.looked c.requires c.if-bytes-gt-LINE_LIMIT.false (subst (λ n. AllByRecursion (λ b. (b == 10) ≡ false) (take (n - c.args.looked) (drop c.args.looked bytes))) is none)
