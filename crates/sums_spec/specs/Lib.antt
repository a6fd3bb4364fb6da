pub mod Joins
pub mod Sums
pub mod Calls
pub mod AnyOrder
pub mod Batches
pub mod Theorems
pub mod Inner
