use Rattle.std.proofs.Common.{take}
use Rattle.stow_model.specs.LentWords.{words_in}
use Rattle.stow_core.specs.Prepared.{IsChargedWithout}
use Rattle.stow_core.specs.State.{store_of}
use Rattle.stow_core.specs.Taken.{AreTaken}
use Rattle.stow_core.proofs.Core.taken.Given as goal

abbrev pub invariant-loop-index : goal.invariant-loop-index
invariant-loop-index g l = record {
  taken : AreTaken l.tenant (store_of l.self l.tenant).rows (take l.index (words_in l.keys)) l.taken;
  charged : IsChargedWithout l.self l.tenant l.taken l.charge;
}
