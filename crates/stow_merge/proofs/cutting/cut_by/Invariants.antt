use Rattle.std.proofs.Common.{◌≡◌, ◌⊎◌, ◌+◌, ◌<◌, ◌≤◌}
use Rattle.stow_merge.specs.Cuts.{size_between, ArePages}
use Rattle.stow_merge.proofs.cutting.cut_by.Given as goal

abbrev pub invariant-loop-i : goal.invariant-loop-i
invariant-loop-i g l = ArePages l.sizes l.room 0 l.ends.items l.from × (l.from ≤ l.i) × (l.page ≡ size_between l.sizes l.from l.i) × (l.from < l.i → (l.page ≤ l.room) ⊎ (l.i ≡ l.from + 1)) × (l.page < 8589934592)
