use Rattle.stow_plain.proofs.Kept.{contents_push, seen_push, left_seen}
use Rattle.stow_plain.proofs.plain_contents.PlainContents.take.Goals as goal

pub invariant_of-self-2 : goal.invariant_of-self-2
invariant_of-self-2 g c = contents_push c.self.inside.rows c.self.inside.copies.items c.push.new.self.items c.self.inside.next (record { id = c.self.inside.next; rows = c.in_ok-rows.rows }) c.self.invariant (left_seen c.self.inside.rows c.self.inside.copies.items c.self.inside.next c.args.self.now c.self.view_is c.requires) (λ i. c.self.inside.next) c.in_ok-rows.ensures.cases c.in_ok-push.ensures.items

pub returns-clause-taken : goal.returns-clause-taken
returns-clause-taken g c = seen_push c.self.inside.rows c.self.inside.copies.items c.push.new.self.items c.self.inside.next (record { id = c.self.inside.next; rows = c.in_ok-rows.rows }) c.args.self.now c.self.invariant (λ i. c.self.inside.next) c.in_ok-rows.ensures.cases c.in_ok-push.ensures.items c.self.view_is
