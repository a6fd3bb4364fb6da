pub mod Big
pub mod Varint
pub mod Writing
pub mod Theorems
pub mod Inner
