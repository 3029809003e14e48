use Rattle.std.proofs.Common.{◌≡◌, take}
use Rattle.stow_service_tests.proofs.sessions.copied.Given as goal

abbrev pub invariant-loop-index : goal.invariant-loop-index
invariant-loop-index g l = l.copy ≡ take l.index l.words
