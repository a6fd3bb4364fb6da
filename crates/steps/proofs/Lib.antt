-- What the proofs share. Assumes nothing.
pub mod Standing
pub mod Accepting
pub mod Remaining
pub mod Latest
pub mod Shorter
pub mod Refunds
pub mod Runs
pub mod Running
pub mod SmallSteps
pub mod Witness
pub mod Needed
pub mod Marked
