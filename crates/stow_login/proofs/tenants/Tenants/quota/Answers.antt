use Rattle.std.proofs.lemmas.Grind.{common_steps}
use Rattle.std.proofs.Common.{◌-◌, ◌≤◌, length, ap, sym, ◌∙◌, arith}
use Rattle.stow_model.specs.Login.{quota_of, quota_from}
use Rattle.stow_login.proofs.Listed.{has_index, quota_at}
use Rattle.stow_login.proofs.tenants.Tenants.quota.Goals as goal

pub returns-clause-quota : goal.returns-clause-quota
unfolding quota_of
returns-clause-quota g c =
    let tenants = c.self.inside.tenants.items in
    let index = c.args.index in
    let low : 1 ≤ index = c.requires.0 in
    let high : index ≤ length tenants = has_index tenants c.args.self.now index c.self.view_is c.requires.1 in
    ap (λ t. t.quota) c.index.ensures
    ∙ sym (quota_at tenants 1 (index - 1) index c.index.result.now (omega arith) (omega arith))
    ∙ ap (λ entries. quota_from 1 entries index) c.self.view_is

pub index-requires : goal.index-requires
index-requires g c = grind (arith, common_steps)
