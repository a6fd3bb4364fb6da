pub mod Sections
pub mod Calls
pub mod Theorems
pub mod Inner
