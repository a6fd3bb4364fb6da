pub mod Given
pub mod Told
pub mod Calls
