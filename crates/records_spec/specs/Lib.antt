pub mod Refusals
pub mod Outcomes
pub mod Tables
pub mod Flags
pub mod Answers
pub mod Theorems
pub mod Inner
