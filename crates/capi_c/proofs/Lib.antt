-- The proofs that stand in files of their own. Assumes nothing.
pub mod Same
