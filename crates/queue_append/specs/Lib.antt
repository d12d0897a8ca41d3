pub mod Append
pub mod Stages
pub mod Requires
pub mod Keeps
pub mod Exits
