pub mod Delete
pub mod Stages
pub mod Keeps
pub mod Again
pub mod Exits
