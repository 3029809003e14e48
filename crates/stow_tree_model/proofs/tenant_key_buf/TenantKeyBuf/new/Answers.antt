use Rattle.stow_tree_model.proofs.Packed.{IsTenantKey-packed}
use Rattle.stow_tree_model.proofs.tenant_key_buf.TenantKeyBuf.new.Goals as goal

pub invariant_of-result : goal.invariant_of-result
invariant_of-result g c = rw (c.from_vec.ensures, c.in_ok-extend_from_slice-2.ensures.items, c.in_ok-extend_from_slice.ensures.items, c.in_ok-reserve.ensures.items, c.new-bytes.ensures.items, c.to_be_bytes.ensures) (IsTenantKey-packed c.args.tenant c.args.key.now c.requires.index c.requires.short)
