use Rattle.std.proofs.Common.{ap, ◌∙◌, ◌∷◌, ◌++◌}
use Rattle.stow_model.specs.Wire.{array_line}
use Rattle.stow_model.proofs.Messages.{number_begun, number_faulty, blank_whole}
use Rattle.stow_model.proofs.message_at.array.Goals as goal

pub returns-in-More : goal.returns-in-More
returns-in-More g c = number_begun c.args.after.now c.in-More.ensures

pub returns-in-Stuck : goal.returns-in-Stuck
returns-in-Stuck g c = number_faulty c.args.after.now c.requires c.in-Stuck.ensures

pub returns-then-count-eq0 : goal.returns-then-count-eq0
returns-then-count-eq0 g c =
    let rest = c.in-Number.rest.now in
    (array_line 0, blank_whole, ap (λ t. 42 ∷ t) c.in-Number.ensures.1 ∙ ap (λ n. array_line n ++ rest) c.if-count-eq0.true)
