use Rattle.std.proofs.Common.{◌≡◌}
use Rattle.stow_slots.proofs.Settled.{IsSettling, unadded}
use Rattle.stow_slots.proofs.settling.settle_all.Given as goal

-- the young ones stay in their list, and so many stand in their places too
abbrev pub invariant-loop-i : goal.invariant-loop-i
invariant-loop-i g l = record {
  settling : IsSettling (unadded l.initial.raw l.count) l.raw l.initial.young.items l.past l.i;
  young : l.young ≡ l.initial.young;
}
