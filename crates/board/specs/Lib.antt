pub mod Calls
pub mod Exits
