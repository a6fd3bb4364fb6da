pub mod Contract
pub mod Forms
pub mod Calls
pub mod CallsForC
