use Rattle.std.proofs.Common.{◌≡◌, take}
use Rattle.stow_merge.specs.Pages.{read_in_order}
use Rattle.stow_merge.specs.Writing.{keys_in}
use Rattle.stow_merge.proofs.writing.write_page.Given as goal

abbrev pub invariant-loop-i : goal.invariant-loop-i
invariant-loop-i g l = l.packed ≡ read_in_order (keys_in l.survey (take l.i l.keys))
