pub mod Set
pub mod Stages
pub mod Keeps
pub mod Again
pub mod Same
pub mod Before
pub mod Exits
