-- What the proofs share, and the crates above cite. Assumes nothing.
pub mod Tables
pub mod Rising
pub mod Halving
pub mod Unions
pub mod Sliding
pub mod Proper
pub mod Answers
pub mod Only
pub mod Owners
pub mod Held
pub mod Alike
pub mod Around
pub mod Merged
pub mod Runs
pub mod Expected
pub mod Guarded
pub mod Naming
