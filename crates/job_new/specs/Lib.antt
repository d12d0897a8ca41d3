pub mod New
pub mod Stages
pub mod Requires
pub mod Keeps
pub mod Again
pub mod Exits
