use Rattle.stow_resp.proofs.Elements.{has_words}
use Rattle.stow_resp.proofs.input.Input.take.Goals as goal

pub returns-then-is_err : goal.returns-then-is_err
returns-then-is_err g c = (has_words c.args.progress c.args.self.now c.requires.progress c.requires.whole, c.self.view_is)
