-- What the loops that judge counts share. Assumes nothing.
pub mod Told
