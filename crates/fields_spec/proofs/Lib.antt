-- The proofs that stand in files of their own. Assumes nothing.
pub mod Marked
pub mod Bigs
pub mod Bases
pub mod Varints
pub mod Parts
pub mod Putting
pub mod Places
pub mod Lows
pub mod Endings
pub mod Told
pub mod RoundTrip
