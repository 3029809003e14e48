use Rattle.std.proofs.Common.{ap, arith}
use Rattle.stow_leaves.specs.StowMerge.Pins.{pins_in}
use Rattle.stow_node.specs.declared.shape.Shape.{Shape}
use Rattle.stow_node.proofs.Eased.{root_eased}
use Rattle.stow_node.proofs.Raising.{root_stays}
use Rattle.stow_node.proofs.node.Node.install.Goals as goal

pub returns-in-Ok-clause-root : goal.returns-in-Ok-clause-root
returns-in-Ok-clause-root g c = root_eased (pins_in c.args.pins.now) c.args.self.now c.install_result.new.self c.ease.new.self c.args.merge.job.batch.messages
    (c.in-Ok.ensures.ok (pins_in c.args.pins.now) (c.can_install.ensures.0 c.if-not-can_install.false).covered) c.ease.ensures.eases

pub returns-in-Err-clause-root : goal.returns-in-Err-clause-root
returns-in-Err-clause-root g c = root_stays (pins_in c.args.pins.now) c.args.self.now c.install_result.new.self c.in-Err.ensures.err c.requires.few

pub ease-requires : goal.ease-requires
ease-requires g c =
    let kept = (c.in-Ok.ensures.ok (pins_in c.args.pins.now) (c.can_install.ensures.0 c.if-not-can_install.false).covered).shape in
    let spare = c.requires.spare in
    let size = ap (λ (h : Shape). h.buffer) kept in
    record { spare = omega (arith, size, spare) }

pub returns-in-Ok-clause-done : goal.returns-in-Ok-clause-done
returns-in-Ok-clause-done g c = λ e key n s. c.ease.ensures.eases.apart key n s (c.in-Ok.ensures.gone key n s)
