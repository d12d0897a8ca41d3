pub mod Index
pub mod Requires
pub mod Walk
pub mod Laws
pub mod Indexed
pub mod Exits
