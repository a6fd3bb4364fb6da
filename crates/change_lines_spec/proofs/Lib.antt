-- What the proofs share, and the crates above cite. Assumes nothing.
pub mod Texts
pub mod Chunks
pub mod Repairs
pub mod Marked
