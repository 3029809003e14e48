use Rattle.stow_node.proofs.Came.{list_left}
use Rattle.stow_node.proofs.room.Room.wide.Goals as goal

pub returns-clause-wide : goal.returns-clause-wide
returns-clause-wide g c = λ levels places h. list_left levels places c.args.self.now.wides.items c.pop.new.self.items c.in-Some.wide c.in-Some.ensures.items h
