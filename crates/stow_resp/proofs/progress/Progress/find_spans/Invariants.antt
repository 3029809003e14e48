use Rattle.std.proofs.Common.{◌≡◌, ◌-◌, length}
use Rattle.stow_resp.specs.Scans.{IsProgress}
use Rattle.stow_resp.proofs.progress.Progress.find_spans.Given as goal

abbrev pub invariant-loop-self : goal.invariant-loop-self
invariant-loop-self g l = record {
  progress : IsProgress l.self l.bytes;
  same_count : l.self.count ≡ l.initial.self.count;
  all_kept : length l.self.spans.items ≡ l.self.found;
}

abbrev pub decreases-loop-self : goal.decreases-loop-self
decreases-loop-self g l = l.self.count - l.self.found
