-- The proofs that stand in files of their own. Assumes nothing.
pub mod OneEquation
pub mod Laws
pub mod Only
pub mod Keeping
pub mod Walked
