use Rattle.std.proofs.Common.{◌≡◌, ℕ, List, map, reverse, ap, sym, ◌∙◌}
use Rattle.stow_model.specs.Login.{Entry}
use Rattle.stow_model.specs.Reply.{encoding}
use Rattle.stow_model.specs.History.{Step, tellings, told_to}
use Rattle.stow_house.specs.Outputs.{Told, told_in_history}
use Rattle.stow_house.specs.Runs.{told_in_run}
use Rattle.stow_house.proofs.Runs.{told_in_run-answers}
use Rattle.stow_house.proofs.laws.two_runs.Goals as goal

told_by_run : (entries : List Entry) (tenant : ℕ) (history : List Step) (told : List Told) → map told_in_history (tellings entries history) ≡ reverse told → told_in_run tenant (tellings entries history) (reverse told) ≡ told_to entries tenant history
told_by_run entries tenant history told output = ap (told_in_run tenant (tellings entries history)) (sym output) ∙ told_in_run-answers tenant (tellings entries history)

pub returns : goal.returns
returns c = λ entries entries' events events' told told' marks marks' house house' s s' tenant tenant' alike.
    let same = c.two_runs.ensures entries entries' tenant tenant' s.history s'.history alike in
    let replies = told_by_run entries tenant s.history told s.output ∙ same.0 ∙ sym (told_by_run entries' tenant' s'.history told' s'.output) in
    (replies, ap (map encoding) replies, s.stands.stores tenant ∙ same.2 ∙ sym (s'.stands.stores tenant'))
