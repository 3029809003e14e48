use Rattle.std.proofs.Common.{◌-◌, drop, subst}
use Rattle.stow_message.specs.MessageBuf.{AreNoLarger}
use Rattle.stow_message.specs.Packed.{IsNoLarger}
use Rattle.stow_message.proofs.Each.{each_taken}
use Rattle.stow_message.proofs.Removed.{all_dropped}
use Rattle.stow_message.proofs.run.Run.largest.Goals as goal

pub returns : goal.returns
returns g c = let r = c.self.inside in let most = c.largest.result in
    subst (AreNoLarger most) c.self.view_is (each_taken (IsNoLarger most) (r.to - r.from) (drop r.from r.buf.now.messages) (all_dropped (IsNoLarger most) r.buf.now.messages r.from c.largest.ensures))
