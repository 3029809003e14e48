-- Which block a lease gives back.
use Rattle.std.specs.Prelude.{◌≡◌, ℕ}
use denote.RawPtr.{Ptr}
use Rattle.stow_raw.specs.declared.lease.Lease.{Lease}

-- l is the right to give the len bytes at ptr back to alloc
abbrev pub Frees : {A : Type 0} → Lease A → Ptr → ℕ → A → Type 0
Frees l ptr len alloc = (l.at ≡ ptr) × (l.len ≡ len) × (l.alloc ≡ alloc)
