use Rattle.stow_page.proofs.Packing.{none_packed}
use Rattle.stow_page.proofs.packed_rows.PackedRows.with_room.Goals as goal

pub from_block-requires : goal.from_block-requires
from_block-requires g c = rw (c.in_ok-places.ensures.items, c.in_ok-extend_from_slice.ensures.items, c.in_ok-bytes.ensures.items) none_packed
