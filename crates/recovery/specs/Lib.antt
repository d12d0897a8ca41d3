pub mod Recover
pub mod Freed
pub mod Steps
pub mod Recovering
pub mod Requires
pub mod Notes
pub mod Exits
