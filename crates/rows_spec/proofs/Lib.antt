-- What the proofs share, and the crates above cite. Assumes nothing.
pub mod Comparing
pub mod Rows
pub mod Removals
pub mod Columns
pub mod Backing
pub mod Only
pub mod Under
pub mod Over
pub mod Outcomes
pub mod Parts
pub mod Marked
