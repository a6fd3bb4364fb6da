pub mod Limits
pub mod Olds
pub mod Standing
pub mod Changes
pub mod Repairing
pub mod Calls
pub mod Theorems
pub mod Inner
