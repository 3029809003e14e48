use Rattle.std.proofs.lemmas.Grind.{common_steps}
use Rattle.std.proofs.Common.{◌-◌, ◌≤◌, length, ap, sym, ◌∙◌, arith}
use Rattle.stow_login.specs.Entries.{name_of, name_from}
use Rattle.stow_login.proofs.Listed.{has_index, name_at}
use Rattle.stow_login.proofs.tenants.Tenants.name.Goals as goal

pub returns : goal.returns
unfolding name_of
returns g c =
    let tenants = c.self.inside.tenants.items in
    let index = c.args.index in
    let low : 1 ≤ index = c.requires.0 in
    let high : index ≤ length tenants = has_index tenants c.args.self.now index c.self.view_is c.requires.1 in
    c.as_slice.ensures
    ∙ ap (λ t. t.name) c.index.ensures
    ∙ sym (name_at tenants 1 (index - 1) index c.index.result.now (omega arith) (omega arith))
    ∙ ap (λ entries. name_from 1 entries index) c.self.view_is

pub index-requires : goal.index-requires
index-requires g c = grind (arith, common_steps)
