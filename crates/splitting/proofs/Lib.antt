-- What the proofs of this crate share. Assumes nothing.
pub mod Backwards
