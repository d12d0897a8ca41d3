pub mod Advance
pub mod Stages
pub mod Ways
pub mod Left
pub mod OpenExits
pub mod Exits
pub mod Keeps
