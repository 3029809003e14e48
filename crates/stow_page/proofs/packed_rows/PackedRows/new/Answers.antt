use Rattle.stow_page.proofs.Packing.{none_packed}
use Rattle.stow_page.proofs.packed_rows.PackedRows.new.Goals as goal

pub from_block-requires : goal.from_block-requires
from_block-requires g c = rw (c.new-places.ensures.items, c.in_ok-extend_from_slice.ensures.items, c.new-bytes.ensures.items) none_packed
