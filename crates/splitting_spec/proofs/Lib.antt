-- What the proofs share, and the crates above cite. Assumes nothing.
pub mod Sections
pub mod Visiting
pub mod Placing
pub mod Counting
pub mod Calls
pub mod Latest
pub mod Sums
pub mod Ascending
pub mod Given
pub mod Accepted
pub mod Only
pub mod Marked
