use Rattle.std.proofs.Common.{◌≡◌, ◌+◌, ◌≤◌, ◌++◌, length, take}
use Rattle.std.specs.Vec.{vec_capacity, vec_len}
use Rattle.stow_filter.proofs.filter.Filter.double.Given as goal

abbrev pub invariant-loop-i : goal.invariant-loop-i
invariant-loop-i g l = let old = l.fn.self in record {
  words : l.self-inside.words.items ≡ old ++ take l.i old;
  len : vec_len l.self-inside.words ≡ length old + l.i;
  room : length old + length old ≤ vec_capacity l.self-inside.words;
}
