use Rattle.std.proofs.Common.{Some, ap, sym, ◌∙◌, drop}
use Rattle.std.specs.Option.{option_map}
use Rattle.stow_tree_model.specs.TreeMessage.{message_of}
use Rattle.stow_message.specs.Packed.{message_at}
use Rattle.stow_message.proofs.Single.{before_named}
use Rattle.stow_message.proofs.beside.look.Goals as goal
use Rattle.stow_message.proofs.beside.look.Goals.{in-Some, in-None}

pub returns-clause-last : goal.returns-clause-last
returns-clause-last g c =
    let raw = c.args.raw.now in
    let told = before_named raw c.args.place.count c.around-last.result.0 c.around-last.ensures.none c.around-last.ensures.before in
    elim c.match-last.branch [
      | in-Some w ↦ ap (option_map message_of) w.last-is ∙ ap Some w.read_message.ensures ∙ ap (option_map (λ slot. message_at (drop slot raw.front))) (sym w.in-Some.is) ∙ told
      | in-None w ↦ ap (option_map message_of) w.last-is ∙ ap (option_map (λ slot. message_at (drop slot raw.front))) (sym w.in-None.is) ∙ told
    ]
