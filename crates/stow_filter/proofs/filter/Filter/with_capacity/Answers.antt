use Rattle.std.proofs.Common.{length, arith}
use Rattle.stow_filter.proofs.Marked.{few_count}
use Rattle.stow_filter.proofs.filter.Filter.with_capacity.Goals as goal

pub invariant_of-result : goal.invariant_of-result
invariant_of-result g c = let words = c.in_ok-words.words in
    few_count c.power_within-most.result (length words.items) (omega (arith, c.in_ok-words.ensures, c.min.ensures)) c.power_within-most.ensures
