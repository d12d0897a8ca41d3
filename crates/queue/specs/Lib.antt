pub mod Front
pub mod Requires
pub mod Laws
pub mod Exits
