-- Tenants' numbers in lists, by the tenants' indexes.
use Rattle.std.specs.Prelude.{ℕ, ◌<◌, ◌-◌, List, [], length, Option, Some, None, slice_get, slice_index, vec_len}
use Rattle.std.specs.Vec.{vec_capacity}
use Rattle.std.specs.declared.vec.Vec.{Vec}

-- pins of a tenant, at most
abbrev pub pin_limit : ℕ
pin_limit = 64

abbrev pub items_of : {A : Type 0} → Option (Vec ℕ A) → List ℕ
items_of None = []
items_of (Some v) = v.items

abbrev pub room_of : {A : Type 0} → Option (Vec ℕ A) → ℕ
room_of None = 0
room_of (Some v) = vec_capacity v - vec_len v

-- the numbers of the tenant with this index
abbrev pub numbers_at : {A : Type 0} → List (Vec ℕ A) → ℕ → List ℕ
numbers_at lists tenant = items_of (slice_get lists tenant)

-- how many more numbers of the tenant need no memory
abbrev pub room_at : {A : Type 0} → List (Vec ℕ A) → ℕ → ℕ
room_at lists tenant = room_of (slice_get lists tenant)

-- each number is above those before it
abbrev pub AreRising : List ℕ → Type 0
AreRising numbers = (i j : ℕ) → i < j → j < length numbers
    → slice_index numbers i < slice_index numbers j
