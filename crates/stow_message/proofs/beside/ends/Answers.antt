use Rattle.std.proofs.Common.{sym, ◌∙◌}
use Rattle.std.proofs.lemmas.Bool.{not-true}
use Rattle.stow_message.proofs.Neighbours.{slot_tells, end_tells}
use Rattle.stow_message.proofs.beside.ends.Goals as goal

pub returns-in-Some : goal.returns-in-Some
returns-in-Some g c = λ told. (slot_tells c.args.raw.now c.requires.filled (c.args.key.now, c.args.number) c.args.count c.in-Some.slot (sym c.requires.next ∙ c.in-Some.is)).1 (sym c.names_below.ensures ∙ not-true c.names_below.result told)

pub returns-in-None : goal.returns-in-None
returns-in-None g c = λ _. end_tells c.args.raw.now c.requires.filled (c.args.key.now, c.args.number) c.args.count (sym c.in-None.is ∙ c.requires.next)
