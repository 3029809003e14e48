use Rattle.std.proofs.Common.{◌-◌}
use Rattle.stow_resp.specs.Scans.{IsProgress}
use Rattle.stow_resp.proofs.progress.Progress.scan.Given as goal

abbrev pub invariant-loop-self : goal.invariant-loop-self
invariant-loop-self g l = IsProgress l.self l.bytes

abbrev pub decreases-loop-self : goal.decreases-loop-self
decreases-loop-self g l = l.self.count - l.self.found
