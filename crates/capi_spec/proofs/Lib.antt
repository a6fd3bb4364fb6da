-- What the proofs share. Assumes nothing.
pub mod Telling
pub mod Testing
pub mod Marked
pub mod Walking
pub mod Examples
