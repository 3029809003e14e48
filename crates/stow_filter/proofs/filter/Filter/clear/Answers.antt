use Rattle.std.proofs.Common.{length, arith}
use Rattle.stow_filter.proofs.Marked.{few_count}
use Rattle.stow_filter.proofs.filter.Filter.clear.Goals as goal

pub invariant_of-self : goal.invariant_of-self
invariant_of-self g c = let old = c.self.inside.words in let new = c.fill.new.self in
    few_count (length old.items) (length new.items) (omega (arith, c.fill.ensures.len, c.truncate.ensures.len, old.ok.0, new.ok.0)) c.self.invariant
