pub mod Failures
pub mod Counted
pub mod Exchanges
pub mod Sent
pub mod Talks
pub mod Turns
pub mod NonblockingConnections
pub mod Laws
pub mod Flushes
pub mod Pools
pub mod WakingDesks
pub mod Pipelined
pub mod Nonblocking
pub use Rattle.stow_shared.specs.StowCore
pub use Rattle.stow_shared.specs.StowHouse
pub use Rattle.stow_shared.specs as StowShared
pub use Rattle.stow_shared.specs.StowTree
