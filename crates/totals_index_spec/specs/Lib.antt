pub mod Structs
pub mod Calls
pub mod Theorems
pub mod Inner
