use Rattle.stow_plain.proofs.Kept.{new_are, new_seen}
use Rattle.stow_plain.proofs.plain_contents.PlainContents.new.Goals as goal

pub invariant_of-result : goal.invariant_of-result
invariant_of-result g c = new_are c.new.result c.new-2.result.items c.new.ensures c.new-2.ensures.items

pub returns : goal.returns
returns g c = new_seen c.new.result c.new-2.result.items c.new.ensures c.new-2.ensures.items
