pub mod Read
pub mod Stages
pub mod Requires
pub mod Laws
pub mod Exits
