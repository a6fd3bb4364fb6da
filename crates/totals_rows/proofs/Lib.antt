-- What the loops over records share. Assumes nothing.
pub mod Turns
