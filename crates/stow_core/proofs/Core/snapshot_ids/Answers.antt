use Rattle.std.proofs.Common.{ap, map, pos, ◌∙◌}
use Rattle.stow_core.proofs.Tenancies.{take_all}
use Rattle.stow_core.proofs.Used.{ids_same}
use Rattle.stow_model.specs.Item as item
use Rattle.stow_model.specs.Reply as reply
use Rattle.stow_core.proofs.Core.snapshot_ids.Goals as goal

pub returns : goal.returns
returns g c = ap (λ items. reply.Array items) (c.loop-id.invariant
    ∙ ap (map (λ id. item.Integer (pos id))) (take_all c.ids_of-ids.result.now c.loop-id.id-index c.loop-id-test.false ∙ c.ids_of-ids.ensures.ids ∙ ids_same c.args.self.now c.args.tenant c.tenancy.result.now c.tenancy.ensures.own))
