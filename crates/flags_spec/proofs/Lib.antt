-- What the proofs share, and the crates above cite. Assumes nothing.
pub mod Choosing
pub mod Joining
pub mod Merging
pub mod Marked
