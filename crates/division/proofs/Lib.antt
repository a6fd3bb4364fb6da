-- What the proofs share. Assumes nothing.
pub mod Each
pub mod Sums
pub mod Amounts
pub mod Fixed
pub mod Split
pub mod OnlyFair
pub mod Larger
pub mod Calls
pub mod Needed
pub mod Marked
