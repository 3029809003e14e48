use Rattle.std.proofs.Common.{◌≡◌, ◌≤◌, ◌∷◌, [], length, take}
use Rattle.stow_resp.proofs.line.null_line.Given as goal

abbrev pub invariant-loop-index : goal.invariant-loop-index
invariant-loop-index l = record {
  enough : l.index ≤ length l.after;
  same : take l.index l.after ≡ take l.index (49 ∷ 13 ∷ 10 ∷ []);
}
