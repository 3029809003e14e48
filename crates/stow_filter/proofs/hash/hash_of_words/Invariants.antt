use Rattle.std.proofs.Common.{◌≡◌, ◌-◌, ◌*◌, ◌/◌, length, drop}
use Rattle.stow_filter.specs.Filter.{words_mixed}
use Rattle.stow_filter.proofs.hash.hash_of_words.Given as goal

abbrev pub invariant-loop-i : goal.invariant-loop-i
invariant-loop-i l = words_mixed l.hash (length l.bytes / 8 - l.i) (drop (8 * l.i) l.bytes) ≡ words_mixed 0 (length l.bytes / 8) l.bytes
