use Rattle.std.proofs.Common.{ap, sym, ◌∙◌}
use Rattle.stow_login.specs.Names.{index_in}
use Rattle.stow_login.proofs.Named.{name_of_map}
use Rattle.stow_login.proofs.names.Names.get.Goals as goal

pub returns : goal.returns
returns g c = c.copied.ensures ∙ c.get.ensures.value ∙ sym (name_of_map c.args.name.now c.self.inside.map.entries) ∙ ap (λ ns. index_in ns c.args.name.now) c.self.view_is
