-- What the proofs share. Assumes nothing.
pub mod Filling
pub mod Columns
pub mod Counting
pub mod Exchange
pub mod Tallies
pub mod RowsFit
pub mod RowByRow
pub mod Starting
pub mod OneRow
pub mod Judged
pub mod Folding
pub mod Indexing
pub mod Afterwards
pub mod Marked
