pub mod Format
pub mod Requires
pub mod Keeps
pub mod Exits
