pub mod Console
pub mod Requires
pub mod Exits
