pub mod Survivors
pub mod Requires
pub mod Rivals
pub mod Laws
pub mod Exits
