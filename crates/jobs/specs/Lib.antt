pub mod Job
pub mod Way
pub mod Requires
pub mod Laws
pub mod Keeps
pub mod Again
pub mod Exits
