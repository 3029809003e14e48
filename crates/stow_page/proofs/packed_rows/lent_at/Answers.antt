use Rattle.std.proofs.lemmas.List.{get_or_default}
use Rattle.stow_page.proofs.Packing.{found}
use Rattle.stow_page.proofs.packed_rows.lent_at.Goals as goal

pub split_at-requires : goal.split_at-requires
split_at-requires c = (found c.args.format _ _ _ _ c.requires.block c.requires.within (get_or_default c.args.places.now c.args.index 0 _ c.requires.within)).within

pub lent_version-requires : goal.lent_version-requires
lent_version-requires c = rw c.split_at.ensures.back (found c.args.format _ _ _ _ c.requires.block c.requires.within (get_or_default c.args.places.now c.args.index 0 _ c.requires.within)).is_at

pub returns : goal.returns
returns c = rw (c.lent_version.ensures, c.split_at.ensures.back) (found c.args.format _ _ _ _ c.requires.block c.requires.within (get_or_default c.args.places.now c.args.index 0 _ c.requires.within)).is_version
