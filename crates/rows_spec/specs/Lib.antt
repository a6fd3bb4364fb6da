pub mod Order
pub mod Rows
pub mod Removals
pub mod Calls
pub mod Theorems
pub mod Inner
