-- What the right to free a block owns.
use Rattle.std.specs.Prelude.{ℕ}
use base.Fml.{Fml}
use denote.RawPtr.{Ptr}
use mir.Syntax.{Ty, w8, ty_int, ty_array}

-- n bytes
abbrev pub bytes_type : ℕ → Ty
bytes_type n = ty_array (ty_int w8) n

-- the allocator's token for the block of n bytes at p
abbrev pub lease_owned : (Ty → Ptr → Fml) → Ptr → ℕ → Fml
lease_owned token p n = token (bytes_type n) p
