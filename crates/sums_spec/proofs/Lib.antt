-- What the proofs share, and the crates above cite. Assumes nothing.
pub mod Adding
pub mod Joining
pub mod Lasts
pub mod Losing
pub mod Answering
pub mod Basics
pub mod Exact
pub mod Saturated
pub mod AnyOrder
pub mod VersionZero
pub mod Reading
pub mod Grouping
pub mod Batches
pub mod Marked
