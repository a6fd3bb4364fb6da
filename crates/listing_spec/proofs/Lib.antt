-- What the proofs share. Assumes nothing.
pub mod Decimals
pub mod Hexes
pub mod Lengths
pub mod Bounds
pub mod Shown
pub mod Marked
