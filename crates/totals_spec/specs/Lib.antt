pub mod Table
pub mod Recount
pub mod Replacing
pub mod Calls
pub mod Theorems
pub mod Inner
