pub mod Find
pub mod Fill
pub mod Requires
pub mod Laws
pub mod Walk
pub mod KeyExits
pub mod Exits
