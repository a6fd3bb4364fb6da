pub mod Removing
pub mod Calls
pub mod Theorems
pub mod Inner
