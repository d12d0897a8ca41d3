pub mod Operation
pub mod Stages
pub mod Keeps
pub mod Exits
