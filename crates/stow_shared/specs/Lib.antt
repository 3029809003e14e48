pub mod Entries
pub mod Journals
pub mod Seats
pub mod Books
pub mod Copies
pub mod Opened
pub mod Closed
pub mod Laws
pub mod Desks
pub use Rattle.stow_house.specs.StowCore
pub use Rattle.stow_house.specs as StowHouse
pub use Rattle.stow_house.specs.StowMerge
pub use Rattle.stow_house.specs.StowNode
pub use Rattle.stow_house.specs.StowResp
pub use Rattle.stow_house.specs.StowTree
