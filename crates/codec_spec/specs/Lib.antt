pub mod Bytes
pub mod Reading
pub mod Sizes
pub mod Calls
pub mod Theorems
pub mod Inner
