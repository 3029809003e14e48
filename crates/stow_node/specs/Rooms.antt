-- The memory that nodes take when children come.
use Rattle.std.specs.Prelude.{◌≡◌, ℕ, zero, suc, ◌+◌, ◌-◌, ◌≤◌, List, [], ◌∷◌, length}
use Rattle.std.specs.List.{AllByRecursion}
use Rattle.std.specs.Vec.{vec_capacity}
use Rattle.std.specs.declared.vec.Vec.{Vec}
use Rattle.stow_groups.specs.Groups.{groups}
use Rattle.stow_leaves.specs.StowMessage.MessageBuf.{message_list}
use Rattle.stow_node.specs.declared.child.Child.{Child}
use Rattle.stow_node.specs.declared.room.Room.{Room}
use Rattle.stow_node.specs.declared.shape.Shape.{Shape}
use Rattle.stow_node.specs.declared.shell.Shell.TheInside.{Inside}

-- a shell is empty, and has what a node of its shape takes
pub record IsShell {A : Type 0} (shell : Inside A) : Type 0 where
  pub children : shell.children.items ≡ []
  pub places : shell.shape.fan_out ≤ vec_capacity shell.children
  pub buffer : shell.buffer ≡ message_list [] 0 shell.shape.buffer
  pub fence : shell.fence.items ≡ []
  pub long : 1028 ≤ vec_capacity shell.fence

-- an empty list with places for so many
abbrev pub IsList : {A : Type 0} → ℕ → Vec (Child A) A → Type 0
IsList places list = (list.items ≡ []) × (places ≤ vec_capacity list)

pub record AreLists {A : Type 0} (count places : ℕ) (lists : List (Vec (Child A) A)) : Type 0 where
  pub enough : count ≤ length lists
  pub each : AllByRecursion (IsList places) lists

pub record AreShells (count : ℕ) (shape : Shape) (shells : List Shape) : Type 0 where
  pub enough : count ≤ length shells
  pub each : AllByRecursion (λ s. s ≡ shape) shells

-- room for so many new nodes of a shape, on so many levels, and for so many children of each
pub record IsRoom {A : Type 0} (shape : Shape) (nodes levels places : ℕ)
    (room : Room A) : Type 0 where
  pub came : places ≤ vec_capacity room.came
  pub wides : AreLists levels places room.wides.items
  pub shells : AreShells nodes shape room.shells.items

-- ---- how much that is

-- how many new nodes there are where so many come behind a child, with nodes of these widths above
-- it
abbrev pub nodes_needed : ℕ → List ℕ → ℕ → ℕ
nodes_needed fan_out widths zero = 0
nodes_needed fan_out [] (suc came) = suc (suc came)
nodes_needed fan_out (width ∷ widths) (suc came) =
    (groups fan_out (width + suc came) - 1)
    + nodes_needed fan_out widths (groups fan_out (width + suc came) - 1)

abbrev pub levels_needed : List ℕ → ℕ → ℕ
levels_needed widths zero = 0
levels_needed widths (suc came) = length widths + suc came

abbrev pub places_needed : ℕ → ℕ → ℕ
places_needed fan_out zero = 0
places_needed fan_out (suc came) = fan_out + suc came

-- there is room for what the nodes that came bring
abbrev pub HasRoom : {A : Type 0} → Shape → List ℕ → Room A → Type 0
HasRoom shape widths room =
    IsRoom shape (nodes_needed shape.fan_out widths (length room.came.items))
    (levels_needed widths (length room.came.items))
    (places_needed shape.fan_out (length room.came.items)) room
