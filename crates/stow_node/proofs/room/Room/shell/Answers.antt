use Rattle.stow_node.proofs.Came.{shell_left}
use Rattle.stow_node.proofs.room.Room.shell.Goals as goal

pub returns-clause-shell : goal.returns-clause-shell
returns-clause-shell g c = λ shape nodes h. shell_left nodes shape c.args.self.now.shells.items c.pop.new.self.items c.in-Some.shell c.in-Some.ensures.items h
