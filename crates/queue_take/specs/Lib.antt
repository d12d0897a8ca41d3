pub mod Take
pub mod Stages
pub mod Keeps
pub mod Exits
