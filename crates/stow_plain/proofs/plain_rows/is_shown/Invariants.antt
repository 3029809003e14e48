use Rattle.std.proofs.Common.{◌≡◌, drop}
use Rattle.stow_ledger.specs.Shown.{is_in}
use Rattle.stow_plain.specs.Contents.{shown_in}
use Rattle.stow_plain.specs.PlainMap.{version_of}
use Rattle.stow_plain.proofs.plain_rows.is_shown.Given as goal

abbrev pub invariant-loop-copy : goal.invariant-loop-copy
invariant-loop-copy g l = is_in (l.key, version_of l.version) (shown_in (drop l.copy-index l.copies)) ≡ is_in (l.key, version_of l.version) (shown_in l.copies)
