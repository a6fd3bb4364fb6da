-- What the proofs share. Assumes nothing.
pub mod Decimals
pub mod Zipped
