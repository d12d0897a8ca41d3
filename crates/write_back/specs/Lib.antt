pub mod WriteBack
pub mod Stages
pub mod Ways
pub mod Exits
pub mod Keeps
