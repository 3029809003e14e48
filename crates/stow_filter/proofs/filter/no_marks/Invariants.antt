use Rattle.std.proofs.Common.{◌≡◌}
use Rattle.std.specs.Vec.{vec_capacity, vec_len}
use Rattle.stow_filter.proofs.filter.no_marks.Given as goal

abbrev pub invariant-loop : goal.invariant-loop
invariant-loop g l = record { len : vec_len l.words ≡ l.counter; room : vec_capacity l.words ≡ l.most }
