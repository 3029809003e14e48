pub mod Seen
pub mod Conversations
pub mod Pipelines
pub mod StepResult
pub mod Flushers
pub mod Sessions
pub mod SharedRuns
pub mod Connections
pub mod Steps
pub mod Outputs
pub mod Runs
pub mod FlushDoors
pub use Rattle.stow_core.specs as StowCore
pub use Rattle.stow_core.specs.StowMerge
pub use Rattle.stow_core.specs.StowNode
pub use Rattle.stow_resp.specs as StowResp
pub use Rattle.stow_core.specs.StowState
pub use Rattle.stow_core.specs.StowTree
