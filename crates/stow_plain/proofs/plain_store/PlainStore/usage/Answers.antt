use Rattle.std.proofs.Common.{ap, ◌∙◌}
use Rattle.std.specs.FinMap as map
use Rattle.stow_plain.proofs.Kept.{usage_is}
use Rattle.stow_plain.proofs.plain_store.PlainStore.usage.Goals as goal

pub returns-clause-usage : goal.returns-clause-usage
returns-clause-usage g c = usage_is c.args.self.now _ _ _ _ _ _ _ (c.len.ensures.len ∙ ap map.len c.rows.ensures) c.charge.ensures.charge c.get.ensures.value c.get-2.ensures.value c.get-3.ensures.value c.get-4.ensures.value c.live.ensures.len
