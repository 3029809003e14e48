use Rattle.std.proofs.Common.{◌≡◌, ◌++◌, drop}
use Rattle.std.specs.List.{AllByRecursion}
use Rattle.stow_merge.specs.Writing.{CanPack, keys_in, pages_at}
use Rattle.stow_merge.proofs.writing.write_pages.Given as goal

abbrev pub invariant-loop-i : goal.invariant-loop-i
invariant-loop-i g l = (l.pages.items ++ pages_at (keys_in l.survey l.keys) l.from (drop l.i l.ends) ≡ pages_at (keys_in l.survey l.keys) 0 l.ends) × AllByRecursion CanPack (pages_at (keys_in l.survey l.keys) l.from (drop l.i l.ends))
