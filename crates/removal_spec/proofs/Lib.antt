-- What the proofs share, and the crates above cite. Assumes nothing.
pub mod Finding
pub mod Faults
pub mod Lessening
pub mod Under
pub mod Merging
pub mod OwnSplit
pub mod Marked
