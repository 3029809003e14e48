use Rattle.std.proofs.Common.{ap}
use Rattle.stow_model.specs.Store.{usage}
use Rattle.stow_house.proofs.laws.two_usages.Goals as goal

pub returns : goal.returns
returns c = λ entries entries' events events' told told' marks marks' house house' s s' tenant tenant' alike.
    let same = c.two_runs.ensures entries entries' events events' told told' marks marks' house house' s s' tenant tenant' alike in
    (ap usage same.2, ap usage (s.stands.stores tenant))
