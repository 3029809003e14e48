use Rattle.std.proofs.Common.{◌∙◌}
use Rattle.stow_tree_model.proofs.Packed.{tenant_of-bytes}
use Rattle.stow_tree_model.proofs.tenant_key.TenantKey.tenant.Goals as goal

pub returns : goal.returns
returns c = c.from_be_bytes.ensures ∙ tenant_of-bytes c.args.self.bytes.now c.args.self.is_key.has_index
