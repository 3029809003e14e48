use Rattle.std.proofs.Common.{◌≡◌, ◌≢◌, ◌<◌, length, get_or, ap, ◌∙◌, rules}
use mathlib.Core.Bool.{false≢true}
use Rattle.stow_house.proofs.StowLogin.Same.{take_same, differ_at}
use Rattle.stow_shared.proofs.comparing.same_words.Goals as goal

pub returns-then-ne : goal.returns-then-ne
returns-then-ne g c =
    let i = c.loop-index.index in
    let x = c.get.result.now in
    let y = c.get-in-loop-index.result.now in
    let within : i < length c.args.b.now = search rules in
    let differ : x ≢ y = search rules in (
      λ f. absurd (false≢true f),
      λ e. absurd (differ_at c.args.a.now c.args.b.now i x y (c.get.ensures ∙ ap (λ l. get_or l i x) c.lent.ensures) (c.get-in-loop-index.ensures ∙ ap (λ l. get_or l i y) c.lent-in-loop-index.ensures) within differ e),
    )

pub loop-index-preserved : goal.loop-index-preserved
loop-index-preserved g c =
    let i = c.loop-index.index in
    let x = c.get.result.now in
    let y = c.get-in-loop-index.result.now in
    let in_a : i < length c.args.a.now = search rules in
    let in_b : i < length c.args.b.now = search rules in
    let same : x ≡ y = search rules in
    take_same c.args.a.now c.args.b.now i x y (c.get.ensures ∙ ap (λ l. get_or l i x) c.lent.ensures) (c.get-in-loop-index.ensures ∙ ap (λ l. get_or l i y) c.lent-in-loop-index.ensures) in_a in_b same c.loop-index.invariant
