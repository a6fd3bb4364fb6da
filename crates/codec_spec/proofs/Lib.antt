-- The proofs that stand in files of their own. Assumes nothing.
pub mod Parsing
pub mod Turns
pub mod Taking
pub mod Stacking
pub mod Readings
pub mod Copying
pub mod Fills
pub mod Settling
pub mod Placing
pub mod Sizing
pub mod Writings
pub mod RoundTrip
pub mod Canonical
pub mod Calls
pub mod Marked
