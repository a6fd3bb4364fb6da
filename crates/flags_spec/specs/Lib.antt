pub mod Owners
pub mod Parts
pub mod Merging
pub mod Calls
