pub mod History
pub mod Demand
pub mod Marked
